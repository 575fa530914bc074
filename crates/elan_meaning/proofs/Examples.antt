-- Whole answers of small programs, computed from the definitions.
use Rattle.std.proofs.Common.{◌≡◌, refl, ℕ, List, [], ◌∷◌, false}
use Rattle.std.specs.Prelude.{Option, None, Some, pos}
use denote.Hole.Carrier.{hidden}
use Rattle.elan_terms.specs.declared.tree.OpId.{OpId}
use Rattle.elan_terms.specs.declared.tree.SortId.{SortId}
use Rattle.elan_terms.specs.declared.tree.Term.{Term}
use Rattle.elan_terms.specs.declared.tree.TermNode.TheBlock as terms
use Rattle.elan_terms.specs.declared.tree.Pattern.{Pattern}
use Rattle.elan_terms.specs.declared.tree.PatternNode as pattern
use Rattle.elan_terms.specs.declared.tree.PatternNode.TheBlock as patterns
use Rattle.elan_terms.specs.Trees.{app_term, int_term}
use Rattle.elan_terms.specs.Term.{order, node, is_ac, sort_of, depth}
use Rattle.elan_terms.specs.Match.{pieces, pieces_at, parts, occurrences, variables, has_sort, prefixed, assignments, instance, fits, matches}
use Rattle.elan_text.specs.declared.name.Name.{Name}
use Rattle.elan_program.specs.declared.signature.Builtin.{Builtin}
use Rattle.elan_program.specs.declared.signature.Builtin.TheVariants.{Add}
use Rattle.elan_program.specs.declared.signature.Assoc.TheVariants as assoc
use Rattle.elan_program.specs.declared.signature.Operator.{Operator}
use Rattle.elan_program.specs.declared.strategy.Strategy.{Strategy}
use Rattle.elan_program.specs.declared.strategy.StrategyNode.TheVariants as made
use Rattle.elan_program.specs.declared.strategy.StrategyNode.TheBlock as strategies
use Rattle.elan_program.specs.declared.program.Rule.{Rule}
use Rattle.elan_program.specs.declared.program.Program.{Program}
use Rattle.elan_program.specs.Signature.{shapes_of, builtin_at}
use Rattle.elan_program.specs.Strategies.{with_actuals}
use Rattle.elan_program.specs.Extension.{unlabelled, tried_by}
use Rattle.elan_program.specs.Builtins.{reduced, value_in, int_of, int_value, in_range}
use Rattle.elan_meaning.specs.declared.item.Item.TheVariants.{Res, Mark}
use Rattle.elan_meaning.specs.declared.item.Cause.TheVariants.{Steps}
use Rattle.elan_meaning.specs.Items.{then_after, then_before}
use Rattle.elan_meaning.specs.Meaning as meaning
use Rattle.elan_meaning.specs.Meaning.{answers, below}

-- the one sort
abbrev s : SortId
s = record { 0 = 0 }

-- the operator of this number
abbrev op : ℕ → OpId
op n = record { 0 = n }

-- an operator over these sorts
abbrev operator : List SortId → Option Builtin → Operator
operator args builtin = record { pieces = []; args = args; sort = s; pri = 0; assoc = assoc.No; ac = false; builtin = builtin }

-- an operator over terms
abbrev term : ℕ → List Term → Term
term n ts = app_term (op n) ts

-- an operator over patterns
abbrev pattern_of : ℕ → List Pattern → Pattern
pattern_of n ps = record { node = pattern.App (op n) ps }

-- a rule without conditions
abbrev rule : Option Name → Pattern → Pattern → Rule
rule label l r = record { label = label; sort = s; left = l; right = r; clauses = [] }

-- a label
abbrev labelled : Option Name
labelled = Some (record { bytes = [] })

-- a, b, c and g(@,@), with the rules ab and ac
abbrev choice : Program
choice = record {
  signature = record { sorts = []; operators = operator [] None ∷ operator [] None ∷ operator [] None ∷ operator (s ∷ s ∷ []) None ∷ []; int = None; truth = None };
  rules = rule labelled (pattern_of 0 []) (pattern_of 1 []) ∷ rule labelled (pattern_of 0 []) (pattern_of 2 []) ∷ [];
  named = [];
}

-- a strategy by its node
abbrev strategy : made.the_data → Strategy
strategy n = record { node = n }

-- both rules
abbrev either : Strategy
either = strategy (made.All (strategy (made.Label (0 ∷ [])) ∷ strategy (made.Label (1 ∷ [])) ∷ []))

-- both rules on a
both_rules : answers choice either (pattern_of 0 []) 10 ≡ Res (term 1 []) 9 ∷ Res (term 2 []) 9 ∷ []
unfolding answers below meaning.apply meaning.of_node meaning.normal meaning.strategy meaning.clauses meaning.of_args then_after meaning.apply_number meaning.arm_list matches fits has_sort prefixed assignments instance parts pieces pieces_at variables occurrences node is_ac sort_of order depth shapes_of builtin_at value_in reduced unlabelled tried_by terms.shape-the_row-Term-0 terms.hidden-the_row-Term-0 patterns.shape-the_row-Pattern-0 patterns.hidden-the_row-Pattern-0 strategies.shape-the_row-Strategy-0 strategies.hidden-the_row-Strategy-0 hidden
both_rules = refl

-- both rules at each position
abbrev everywhere : Strategy
everywhere = strategy (made.Normalise s either)

-- both rules at each position of g(a,a)
everywhere_in_a_pair : answers choice everywhere (pattern_of 3 (pattern_of 0 [] ∷ pattern_of 0 [] ∷ [])) 20
    ≡ Res (term 3 (term 1 [] ∷ term 1 [] ∷ [])) 13 ∷ Res (term 3 (term 1 [] ∷ term 2 [] ∷ [])) 13 ∷ Res (term 3 (term 2 [] ∷ term 1 [] ∷ [])) 13 ∷ Res (term 3 (term 2 [] ∷ term 2 [] ∷ [])) 13 ∷ []
unfolding answers below meaning.apply meaning.of_node meaning.normal meaning.strategy meaning.positions meaning.pattern_of meaning.placed meaning.placed_node then_before meaning.normal_term meaning.clauses meaning.of_args then_after meaning.apply_number meaning.arm_list matches fits has_sort prefixed assignments instance parts pieces pieces_at variables occurrences node is_ac sort_of order depth shapes_of builtin_at value_in reduced unlabelled tried_by terms.shape-the_row-Term-0 terms.hidden-the_row-Term-0 patterns.shape-the_row-Pattern-0 patterns.hidden-the_row-Pattern-0 strategies.shape-the_row-Strategy-0 strategies.hidden-the_row-Strategy-0 strategies.shape-the_row-Strategy-1 strategies.hidden-the_row-Strategy-1 strategies.shown-the_row-Strategy-0 hidden
everywhere_in_a_pair = refl

-- integers with +, and the rule inc
abbrev nums : Program
nums = record {
  signature = record { sorts = []; operators = operator (s ∷ s ∷ []) (Some Add) ∷ []; int = Some s; truth = None };
  rules = rule labelled (record { node = pattern.Var 0 s }) (pattern_of 0 (record { node = pattern.Var 0 s } ∷ record { node = pattern.Int (pos 1) } ∷ [])) ∷ [];
  named = [];
}

-- 0 with three steps: two rounds, then none is left
counted_to_the_mark : answers nums (strategy (made.Iterate (strategy (made.Label (0 ∷ []))))) (record { node = pattern.Int (pos 0) }) 3
    ≡ Res (int_term (pos 0)) 2 ∷ Res (int_term (pos 1)) 0 ∷ Mark Steps ∷ []
unfolding answers below meaning.apply meaning.of_node meaning.normal meaning.strategy meaning.clauses meaning.of_args then_after meaning.apply_number meaning.arm_list matches fits has_sort prefixed assignments instance parts pieces pieces_at variables occurrences node is_ac sort_of order depth shapes_of builtin_at value_in int_of int_value in_range reduced unlabelled tried_by terms.shape-the_row-Term-0 terms.hidden-the_row-Term-0 patterns.shape-the_row-Pattern-0 patterns.hidden-the_row-Pattern-0 strategies.shape-the_row-Strategy-0 strategies.hidden-the_row-Strategy-0 strategies.shape-the_row-Strategy-1 strategies.hidden-the_row-Strategy-1 strategies.shown-the_row-Strategy-0 hidden
counted_to_the_mark = refl

-- the rule inc
abbrev inc : Strategy
inc = strategy (made.Label (0 ∷ []))

-- the same without the start
counted_on_to_the_mark : answers nums (strategy (made.IteratePlus inc)) (record { node = pattern.Int (pos 0) }) 3
    ≡ Res (int_term (pos 1)) 0 ∷ Mark Steps ∷ []
unfolding answers below meaning.apply meaning.of_node meaning.normal meaning.strategy meaning.clauses meaning.of_args then_after meaning.apply_number meaning.arm_list matches fits has_sort prefixed assignments instance parts pieces pieces_at variables occurrences node is_ac sort_of order depth shapes_of builtin_at value_in int_of int_value in_range reduced unlabelled tried_by terms.shape-the_row-Term-0 terms.hidden-the_row-Term-0 patterns.shape-the_row-Pattern-0 patterns.hidden-the_row-Pattern-0 strategies.shape-the_row-Strategy-0 strategies.hidden-the_row-Strategy-0 strategies.shape-the_row-Strategy-1 strategies.hidden-the_row-Strategy-1 strategies.shown-the_row-Strategy-0 hidden
counted_on_to_the_mark = refl

-- the first rule on the first argument of g(a,a), and each of both on the second
in_both_arguments : answers choice (strategy (made.Cong (op 3) (strategy (made.Label (0 ∷ [])) ∷ either ∷ []))) (pattern_of 3 (pattern_of 0 [] ∷ pattern_of 0 [] ∷ [])) 10
    ≡ Res (term 3 (term 1 [] ∷ term 1 [] ∷ [])) 8 ∷ Res (term 3 (term 1 [] ∷ term 2 [] ∷ [])) 8 ∷ []
unfolding answers below meaning.apply meaning.of_node meaning.normal meaning.strategy meaning.clauses meaning.of_args then_after meaning.apply_number meaning.arm_list matches fits has_sort prefixed assignments instance parts pieces pieces_at variables occurrences node is_ac sort_of order depth shapes_of builtin_at value_in int_of int_value in_range reduced unlabelled tried_by terms.shape-the_row-Term-0 terms.hidden-the_row-Term-0 patterns.shape-the_row-Pattern-0 patterns.hidden-the_row-Pattern-0 strategies.shape-the_row-Strategy-0 strategies.hidden-the_row-Strategy-0 strategies.shape-the_row-Strategy-1 strategies.hidden-the_row-Strategy-1 strategies.shown-the_row-Strategy-0 hidden meaning.pattern_of meaning.normal_term meaning.normal_app then_before
in_both_arguments = refl

-- another operator heads a
not_in_a : answers choice (strategy (made.Cong (op 3) (either ∷ either ∷ []))) (pattern_of 0 []) 10 ≡ []
unfolding answers below meaning.apply meaning.of_node meaning.normal meaning.strategy meaning.clauses meaning.of_args then_after meaning.apply_number meaning.arm_list matches fits has_sort prefixed assignments instance parts pieces pieces_at variables occurrences node is_ac sort_of order depth shapes_of builtin_at value_in int_of int_value in_range reduced unlabelled tried_by terms.shape-the_row-Term-0 terms.hidden-the_row-Term-0 patterns.shape-the_row-Pattern-0 patterns.hidden-the_row-Pattern-0 strategies.shape-the_row-Strategy-0 strategies.hidden-the_row-Strategy-0 strategies.shape-the_row-Strategy-1 strategies.hidden-the_row-Strategy-1 strategies.shown-the_row-Strategy-0 hidden meaning.pattern_of meaning.normal_term meaning.normal_app then_before
not_in_a = refl

-- nums with twice(X) => X;X
abbrev with_twice : Program
with_twice = record {
  signature = nums.signature;
  rules = nums.rules;
  named = record { name = record { bytes = [] }; sort = s; parameters = 1; body = strategy (made.Seq (strategy (made.Param 0) ∷ strategy (made.Param 0) ∷ [])) } ∷ [];
}

-- twice(twice(inc)) on 0: three calls and four rules
four_times : answers with_twice (strategy (made.Call 0 (strategy (made.Call 0 (inc ∷ [])) ∷ []))) (record { node = pattern.Int (pos 0) }) 10
    ≡ Res (int_term (pos 4)) 3 ∷ []
unfolding answers below meaning.apply meaning.of_node meaning.normal meaning.strategy meaning.clauses meaning.of_args then_after meaning.apply_number meaning.arm_list matches fits has_sort prefixed assignments instance parts pieces pieces_at variables occurrences node is_ac sort_of order depth shapes_of builtin_at value_in int_of int_value in_range reduced unlabelled tried_by terms.shape-the_row-Term-0 terms.hidden-the_row-Term-0 patterns.shape-the_row-Pattern-0 patterns.hidden-the_row-Pattern-0 strategies.shape-the_row-Strategy-0 strategies.hidden-the_row-Strategy-0 strategies.shape-the_row-Strategy-1 strategies.hidden-the_row-Strategy-1 strategies.shown-the_row-Strategy-0 hidden with_actuals
four_times = refl

-- twice(inc) with two steps: a call, a rule, and then none is left
twice_to_the_mark : answers with_twice (strategy (made.Call 0 (inc ∷ []))) (record { node = pattern.Int (pos 0) }) 2 ≡ Mark Steps ∷ []
unfolding answers below meaning.apply meaning.of_node meaning.normal meaning.strategy meaning.clauses meaning.of_args then_after meaning.apply_number meaning.arm_list matches fits has_sort prefixed assignments instance parts pieces pieces_at variables occurrences node is_ac sort_of order depth shapes_of builtin_at value_in int_of int_value in_range reduced unlabelled tried_by terms.shape-the_row-Term-0 terms.hidden-the_row-Term-0 patterns.shape-the_row-Pattern-0 patterns.hidden-the_row-Pattern-0 strategies.shape-the_row-Strategy-0 strategies.hidden-the_row-Strategy-0 strategies.shape-the_row-Strategy-1 strategies.hidden-the_row-Strategy-1 strategies.shown-the_row-Strategy-0 hidden with_actuals
twice_to_the_mark = refl
