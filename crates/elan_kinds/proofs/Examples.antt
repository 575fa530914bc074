-- The premises of the law can be met: a valid program, a strategy for its sort, and a term of its kind.
use Rattle.std.proofs.Common.{◌≡◌, refl, ℕ, false, ◌+◌, [], ◌∷◌, None, Some, arith}
use denote.Hole.Carrier.{hidden}
use Rattle.elan_terms.specs.declared.tree.SortId.{SortId}
use Rattle.elan_terms.specs.declared.tree.Term.{Term}
use Rattle.elan_terms.specs.declared.tree.Pattern.{Pattern}
use Rattle.elan_terms.specs.declared.tree.PatternNode as pattern
use Rattle.elan_terms.specs.declared.tree.PatternNode.TheBlock as patterns
use Rattle.elan_terms.specs.Trees.{app_term}
use Rattle.elan_terms.specs.Term.{depth, sort_of}
use Rattle.elan_terms.specs.Match.{variables, occurrences}
use Rattle.elan_text.specs.declared.name.Name.{Name}
use Rattle.elan_program.specs.declared.signature.Piece.TheVariants.{Word}
use Rattle.elan_program.specs.declared.signature.Assoc.TheVariants as assoc
use Rattle.elan_program.specs.declared.signature.Operator.{Operator}
use Rattle.elan_program.specs.declared.strategy.Strategy.{Strategy}
use Rattle.elan_program.specs.declared.strategy.StrategyNode.TheVariants as made
use Rattle.elan_program.specs.declared.program.Program.{Program}
use Rattle.elan_program.specs.Signature.{shapes_of, builtin_at}
use Rattle.elan_program.specs.Spelling.{is_spelled, is_name, reserved}
use Rattle.elan_program.specs.Soundness.{is_spelling_of, takes, makes, injections, led_on, has_no_cycle, is_sound_operator, is_sound}
use Rattle.elan_program.specs.Patterns.{is_in_range, sort_of_int, args_fit, pattern_sort, uses, binds}
use Rattle.elan_program.specs.Validity.{is_valid_strategy, is_valid_rule, is_valid_named, is_valid, IsValid}
use Rattle.elan_terms.proofs.Lists.{all_from, pairs_from}
use Rattle.elan_laws.proofs.CanonicalLaws.{app_valid, app_canonical}
use Rattle.elan_terms.specs.Ascending.{NotAfter}
use Rattle.elan_terms.proofs.TermLemmas.{depth-app}
use Rattle.elan_kinds.specs.Kinds.{IsKind, IsFor}

-- the one sort
abbrev s : SortId
s = record { 0 = 0 }

-- a name of one byte
abbrev name : ℕ → Name
name b = record { bytes = b ∷ [] }

-- a constant that is spelled so
abbrev constant : ℕ → Operator
constant b = record { pieces = Word (name b) ∷ []; args = []; sort = s; pri = 0; assoc = assoc.No; ac = false; builtin = None }

-- the operator of this number, as a pattern
abbrev side : ℕ → Pattern
side n = record { node = pattern.App (record { 0 = n }) [] }

-- a and b, with the rule that makes b of a
abbrev small : Program
small = record {
  signature = record { sorts = name 115 ∷ []; operators = constant 97 ∷ constant 98 ∷ []; int = None; truth = None };
  rules = record { label = Some (name 114); sort = s; left = side 0; right = side 1; clauses = [] } ∷ [];
  named = [];
}

small_is_valid : IsValid small
unfolding is_valid is_sound is_sound_operator is_spelling_of is_spelled has_no_cycle injections led_on is_valid_rule is_valid_named binds variables occurrences uses pattern_sort args_fit shapes_of builtin_at takes makes is_in_range sort_of_int is_valid_strategy is_name reserved patterns.shape-the_row-Pattern-0 patterns.hidden-the_row-Pattern-0 hidden
small_is_valid = refl

-- the strategy that applies the rule once
abbrev once : Strategy
once = record { node = made.Label (0 ∷ []) }

once_is_valid : IsFor small s once
unfolding is_valid_strategy
once_is_valid = refl

-- the term a
abbrev a : Term
a = app_term (record { 0 = 0 }) []

a_is_kind : IsKind small s a
unfolding shapes_of sort_of
a_is_kind =
    let deep : depth a ≡ 1 + 0 = depth-app a (record { 0 = 0 }) [] refl in
    record {
      suits = (app_valid (shapes_of small.signature) (record { 0 = 0 }) [] tt tt, refl);
      canonical = app_canonical (shapes_of small.signature) (record { 0 = 0 }) [] (λ _. (all_from _ [] tt, pairs_from NotAfter [] tt)) tt;
      shallow = omega arith;
    }
