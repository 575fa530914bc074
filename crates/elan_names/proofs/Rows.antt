-- Names and what they stand for, worked out by the definitions.
use Rattle.std.proofs.Common.{◌≡◌, refl, ℕ, ◌+◌, false, List, [], ◌∷◌}
use Rattle.std.specs.Prelude.{Ok, Err, Option, Some, None, codes}
use Rattle.elan_text.specs.declared.refusal.Code.TheVariants.{E07, E16, E20, E22}
use Rattle.elan_terms.specs.declared.tree.SortId.{SortId}
use Rattle.elan_program.specs.declared.signature.Assoc.TheVariants.{No}
use Rattle.elan_program.specs.declared.signature.Operator.{Operator}
use Rattle.elan_program.specs.declared.signature.Piece.{Piece}
use Rattle.elan_program.specs.declared.signature.Piece.TheVariants.{Hole, Word as APiece}
use Rattle.elan_names.specs.declared.heads.Names.{Names}
use Rattle.elan_names.specs.declared.heads.Target.TheVariants as target
use Rattle.elan_program.specs.declared.strategy.StrategyNode.TheVariants as made
use Rattle.elan_lexer.specs.declared.token.Kind.TheVariants.{Word}
use Rattle.elan_lexer.specs.declared.token.Token.{Token}
use Rattle.elan_names.specs.Names.{named, applied}
use Rattle.elan_names.specs.Resolved.{Site, Body, name_at}

abbrev sort : ℕ → SortId
sort n = record { 0 = n }

-- two rules `r` and a rule `t` of another sort, the definitions `slow` and `twice(X)`
abbrev nums : Names
nums = record {
  labels =
      record { name = Some (record { bytes = codes "r" }); sort = sort 0 } ∷ record { name = None; sort = sort 0 }
      ∷ record { name = Some (record { bytes = codes "r" }); sort = sort 0 } ∷ record { name = Some (record { bytes = codes "t" }); sort = sort 1 } ∷ [];
  heads =
      record { name = record { bytes = codes "slow" }; sort = sort 0; parameters = 0 }
      ∷ record { name = record { bytes = codes "twice" }; sort = sort 0; parameters = 1 } ∷ [];
}

abbrev word : List ℕ → Piece
word w = APiece (record { bytes = w })

-- g(@,@) from the sort 0 to the sort 0
abbrev g : Operator
g = record {
  pieces = word (codes "g") ∷ word (codes "(") ∷ Hole ∷ word (codes ",") ∷ Hole ∷ word (codes ")") ∷ [];
  args = sort 0 ∷ sort 0 ∷ [];
  sort = sort 0;
  pri = 0;
  assoc = No;
  ac = false;
  builtin = None;
}

rules_of_a_label : named nums (sort 0) (codes "r") ≡ Ok (record { node = made.Label (0 ∷ 2 ∷ []) })
unfolding named
rules_of_a_label = refl

a_definition : named nums (sort 0) (codes "slow") ≡ Ok (record { node = made.Call 0 [] })
unfolding named
a_definition = refl

parameters_are_wanted : named nums (sort 0) (codes "twice") ≡ Err E07
unfolding named
parameters_are_wanted = refl

of_another_sort : named nums (sort 0) (codes "t") ≡ Err E22
unfolding named
of_another_sort = refl

unknown : named nums (sort 0) (codes "nope") ≡ Err E20
unfolding named
unknown = refl

over_one : applied nums (g ∷ []) (sort 0) (codes "twice") 1 ≡ Ok (target.Definition 1)
unfolding applied
over_one = refl

over_two : applied nums (g ∷ []) (sort 0) (codes "twice") 2 ≡ Err E07
unfolding applied
over_two = refl

congruence : applied nums (g ∷ []) (sort 0) (codes "g") 2 ≡ Ok (target.Operator (record { 0 = 0 }))
unfolding applied
congruence = refl

congruence_twice : applied nums (g ∷ g ∷ []) (sort 0) (codes "g") 2 ≡ Err E16
unfolding applied
congruence_twice = refl

congruence_elsewhere : applied nums (g ∷ []) (sort 1) (codes "g") 2 ≡ Err E22
unfolding applied
congruence_elsewhere = refl

other_count : applied nums (g ∷ []) (sort 0) (codes "g") 1 ≡ Err E20
unfolding applied
other_count = refl

label_over_one : applied nums (g ∷ []) (sort 0) (codes "r") 1 ≡ Err E20
unfolding applied
label_over_one = refl

-- ---- in a body

-- the text `r twice X X`, whose four tokens are words
abbrev token : ℕ → ℕ → Token
token from to = record { kind = Word; start = from; «end» = to; at = record { line = 1; column = from + 1 } }

abbrev site : Option Body → Site
site body = record {
  bytes = codes "r twice X t";
  tokens = token 0 1 ∷ token 2 7 ∷ token 8 9 ∷ token 10 11 ∷ [];
  names = nums;
  operators = g ∷ [];
  body = body;
}

-- in a body for the sort 0 with the parameters `X` and `r`
abbrev inside : Site
inside = site (Some (record { parameters = 2 ∷ 0 ∷ []; sort = sort 0 }))

outside_a_body : name_at (site None) (sort 0) (codes "X") ≡ Err E20
unfolding name_at named
outside_a_body = refl

a_parameter : name_at inside (sort 0) (codes "X") ≡ Ok (record { node = made.Param 0 })
unfolding name_at
a_parameter = refl

a_parameter_before_a_label : name_at inside (sort 0) (codes "r") ≡ Ok (record { node = made.Param 1 })
unfolding name_at
a_parameter_before_a_label = refl

a_parameter_at_another_sort : name_at inside (sort 1) (codes "X") ≡ Err E22
unfolding name_at
a_parameter_at_another_sort = refl

no_parameter : name_at inside (sort 1) (codes "t") ≡ Ok (record { node = made.Label (3 ∷ []) })
unfolding name_at named
no_parameter = refl
