-- Examples, computed from the definitions.
use Rattle.std.proofs.Common.{◌≡◌, refl, ap, ℕ, pos, List, [], ◌∷◌, true, false, length, arith}
use Rattle.std.specs.Prelude.{None}
use denote.Hole.Carrier.{hidden}
use Rattle.elan_terms.specs.declared.tree.OpId.{OpId}
use Rattle.elan_terms.specs.declared.tree.SortId.{SortId}
use Rattle.elan_terms.specs.declared.tree.Shape.{Shape}
use Rattle.elan_terms.specs.declared.tree.Shapes.{Shapes}
use Rattle.elan_terms.specs.declared.tree.Term.{Term}
use Rattle.elan_terms.specs.declared.tree.TermNode.TheBlock.{shape-the_row-Term-0, hidden-the_row-Term-0}
use Rattle.elan_terms.specs.declared.tree.Pattern.{Pattern}
use Rattle.elan_terms.specs.declared.tree.PatternNode as pattern
use Rattle.elan_terms.specs.declared.tree.PatternNode.TheBlock.{shape-the_row-Pattern-0, hidden-the_row-Pattern-0}
use Rattle.elan_terms.specs.Trees.{app_term, int_term}
use Rattle.elan_terms.specs.Term.{order, arms_under, canon, node, is_ac, sort_of}
use Rattle.elan_terms.specs.Match.{pieces, pieces_at, parts, variables, occurrences}
use Rattle.elan_terms.specs.Valid.{HasSort, IsValid}
use Rattle.elan_terms.specs.Ascending.{NotAfter}
use Rattle.elan_terms.specs.Canonical.{is_headed, IsSettled, IsCanonical}
use Rattle.elan_laws.specs.Parts.{none, taken, left, IsPart, whole, inside, some}
use Rattle.elan_laws.specs.Matching.{filled, IsMatch}
use Rattle.elan_laws.specs.Equality.{EqualModulo, symmetric, transitive, congruent, commutative, associative, nested}
use Rattle.elan_terms.proofs.Lists.{all_from, pairs_of, pairs_from}
use Rattle.elan_laws.proofs.CanonicalLaws.{app_canonical}
use Rattle.elan_laws.proofs.EqualityLaws.{equal-canon}

-- the one sort
abbrev s : SortId
s = record { 0 = 0 }

-- the operator of this number
abbrev op : ℕ → OpId
op n = record { 0 = n }

-- an operator without arguments
abbrev constant : Shape
constant = record { args = []; sort = s; ac = false }

-- a, b, c and U
abbrev sets : Shapes
sets = record { shapes = constant ∷ constant ∷ constant ∷ record { args = s ∷ s ∷ []; sort = s; ac = true } ∷ []; int = None }

abbrev a : Term
a = app_term (op 0) []

abbrev b : Term
b = app_term (op 1) []

abbrev c : Term
c = app_term (op 2) []

-- `U` over these arguments
abbrev U : List Term → Term
U ts = app_term (op 3) ts

-- the variable of this number
abbrev var : ℕ → Pattern
var n = record { node = pattern.Var n s }

-- a U b U c has seven parts
seven_parts : parts sets (U (a ∷ b ∷ c ∷ [])) ≡ a ∷ b ∷ c ∷ U (a ∷ b ∷ []) ∷ U (a ∷ c ∷ []) ∷ U (b ∷ c ∷ []) ∷ U (a ∷ b ∷ c ∷ []) ∷ []
unfolding parts pieces pieces_at is_ac order shape-the_row-Term-0 hidden-the_row-Term-0 hidden
seven_parts = refl

-- a U a U b has five, each once
five_parts : parts sets (U (a ∷ a ∷ b ∷ [])) ≡ a ∷ b ∷ U (a ∷ a ∷ []) ∷ U (a ∷ b ∷ []) ∷ U (a ∷ a ∷ b ∷ []) ∷ []
unfolding parts pieces pieces_at is_ac order shape-the_row-Term-0 hidden-the_row-Term-0 hidden
five_parts = refl

-- a U c is one of those of a U b U c
one_part : IsPart sets (U (a ∷ c ∷ [])) (U (a ∷ b ∷ c ∷ []))
unfolding is_ac
one_part = some (op 3) (a ∷ b ∷ c ∷ []) (a ∷ c ∷ []) refl (taken (left (taken none))) (omega arith) refl

-- a U b U c is valid
three_are_valid : IsValid sets (U (a ∷ b ∷ c ∷ []))
unfolding sort_of shape-the_row-Term-0 hidden-the_row-Term-0 hidden
three_are_valid = ((omega arith, all_from (λ t. HasSort sets t s) (a ∷ b ∷ c ∷ []) (refl, (refl, (refl, tt)))), ((tt, tt), ((tt, tt), ((tt, tt), tt))))

-- U over one argument is not
one_is_not_valid : IsValid sets (U (a ∷ [])) → ⊥
unfolding shape-the_row-Term-0 hidden-the_row-Term-0 hidden
one_is_not_valid h = omega (arith, h.0.0)

-- there is no sort of integers
no_integers : IsValid sets (int_term (pos 7)) → ⊥
no_integers h = not_there h.1
  where
    not_there : false ≡ true → ⊥
    not_there e = cc

-- a U a U b is canonical
two_alike_are_canonical : IsCanonical sets (U (a ∷ a ∷ b ∷ []))
unfolding is_ac order shape-the_row-Term-0 hidden-the_row-Term-0 hidden
two_alike_are_canonical =
    app_canonical sets (op 3) (a ∷ a ∷ b ∷ [])
    (λ ac. (
      all_from (λ t. is_headed (op 3) t ≡ false) (a ∷ a ∷ b ∷ []) (refl, (refl, (refl, tt))),
      pairs_from NotAfter (a ∷ a ∷ b ∷ []) ((refl, (refl, tt)), ((refl, tt), (tt, tt))),
    ))
    (app_canonical sets (op 0) [] (none_here 0) tt, (app_canonical sets (op 0) [] (none_here 0) tt, (app_canonical sets (op 1) [] (none_here 1) tt, tt)))
  where
    none_here : (n : ℕ) → IsSettled sets (op n) []
    none_here n ac = (all_from (λ t. is_headed (op n) t ≡ false) [] tt, pairs_from NotAfter [] tt)

-- b U a does not ascend
descending_is_not_canonical : IsCanonical sets (U (b ∷ a ∷ [])) → ⊥
unfolding is_ac order shape-the_row-Term-0 hidden-the_row-Term-0 hidden
descending_is_not_canonical h = descends (pairs_of NotAfter (b ∷ a ∷ []) (h.0 refl).1).0.0
  where
    descends : true ≡ false → ⊥
    descends e = cc

-- (a U b) U c is not flat
nested_is_not_canonical : IsCanonical sets (U (U (a ∷ b ∷ []) ∷ c ∷ [])) → ⊥
unfolding is_ac shape-the_row-Term-0 hidden-the_row-Term-0 hidden
nested_is_not_canonical h = headed ((h.0 refl).0 0 a (omega arith))
  where
    headed : true ≡ false → ⊥
    headed e = cc

-- (c U a) U b and a U b U c, by the equations alone
brackets_move : EqualModulo sets (U (U (c ∷ a ∷ []) ∷ b ∷ [])) (U (a ∷ b ∷ c ∷ []))
unfolding is_ac
brackets_move =
    transitive (congruent (op 3) [] (b ∷ []) (U (c ∷ a ∷ [])) (U (a ∷ c ∷ [])) (commutative (op 3) c a refl))
    (transitive (associative (op 3) a c b refl)
    (transitive (congruent (op 3) (a ∷ []) [] (U (c ∷ b ∷ [])) (U (b ∷ c ∷ [])) (commutative (op 3) c b refl))
    (symmetric (nested (op 3) a b c [] refl))))

-- X U Y filled with a and b U c
two_filled : filled (λ x. U (b ∷ c ∷ [])) (record { node = pattern.App (op 3) (var 0 ∷ var 1 ∷ []) }) ≡ U (U (b ∷ c ∷ []) ∷ U (b ∷ c ∷ []) ∷ [])
unfolding filled shape-the_row-Term-0 hidden-the_row-Term-0 shape-the_row-Pattern-0 hidden-the_row-Pattern-0 hidden
two_filled = refl

-- X U Y over two variables
abbrev pair : Pattern
pair = record { node = pattern.App (op 3) (var 0 ∷ var 1 ∷ []) }

-- with a for X and b U c for Y it is a U b U c
a_match : IsMatch sets pair (U (a ∷ b ∷ c ∷ [])) (a ∷ U (b ∷ c ∷ []) ∷ [])
unfolding variables occurrences filled canon node is_ac sort_of order shape-the_row-Term-0 hidden-the_row-Term-0 shape-the_row-Pattern-0 hidden-the_row-Pattern-0 hidden
a_match = record {
  given = (
    (inside (op 3) (a ∷ b ∷ c ∷ []) a (0, omega arith, refl) (whole refl), refl),
    ((some (op 3) (a ∷ b ∷ c ∷ []) (b ∷ c ∷ []) refl (left (taken (taken none))) (omega arith) refl, refl), tt),
  );
  makes = refl;
}

-- a U a is not a U a U a: the equations do not drop what is repeated
repeated_ones_count : EqualModulo sets (U (a ∷ a ∷ [])) (U (a ∷ a ∷ a ∷ [])) → ⊥
unfolding canon node is_ac order shape-the_row-Term-0 hidden-the_row-Term-0 hidden
repeated_ones_count h = omega (arith, ap (λ t. length (arms_under (op 3) t)) (equal-canon sets (U (a ∷ a ∷ [])) (U (a ∷ a ∷ a ∷ [])) h))
