-- Shapes of operators, found by number.
use Rattle.std.proofs.Common.{◌≡◌, refl, sym, ap, ◌∙◌, ℕ, Bool, false, List, map}
use Rattle.std.specs.Prelude.{Option, Some, None, slice_get, option_map}
use Rattle.std.proofs.lemmas.Option.{slice_get-map}
use Rattle.elan_terms.specs.declared.tree.OpId.{OpId}
use Rattle.elan_terms.specs.Term.{is_ac, shape_ac}
use Rattle.elan_program.specs.declared.signature.Operator.{Operator}
use Rattle.elan_program.specs.declared.signature.Signature.{Signature}
use Rattle.elan_program.specs.Signature.{shape_of, shapes_of}

-- whether an operator is there and is associative and commutative
abbrev operator_ac : Option Operator → Bool
operator_ac None = false
operator_ac (Some o) = o.ac

kept : (o : Option Operator) → shape_ac (option_map shape_of o) ≡ operator_ac o
kept None = refl
kept (Some o) = refl

shape_at : (os : List Operator) (k : ℕ) → shape_ac (slice_get (map shape_of os) k) ≡ operator_ac (slice_get os k)
shape_at os k = ap shape_ac (slice_get-map shape_of os k) ∙ kept (slice_get os k)

module _ (g : Signature) (op : OpId) where
  pub ac-none : slice_get g.operators op.0 ≡ None → false ≡ is_ac (shapes_of g) op
  unfolding is_ac shapes_of
  ac-none e = sym (shape_at g.operators op.0 ∙ ap operator_ac e)

  pub ac-some : (o : Operator) → slice_get g.operators op.0 ≡ Some o → o.ac ≡ is_ac (shapes_of g) op
  unfolding is_ac shapes_of
  ac-some o e = sym (shape_at g.operators op.0 ∙ ap operator_ac e)

pub ruleset acs = (ac-none, ac-some)
