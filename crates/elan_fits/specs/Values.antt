-- The values of variables whose places are known. The list of values has those of the variables from a first number on.
use Rattle.std.specs.Prelude.{◌≡◌, ℕ, ◌-◌, Bool, Option, Some, None, List, [], ◌∷◌, ◌++◌, map, slice_get, if◌then◌else◌, option_and_then}
use Rattle.std.specs.List.{flat_map}
use Rattle.elan_terms.specs.declared.tree.SortId.{SortId}
use Rattle.elan_terms.specs.declared.tree.Term.{Term}
use Rattle.elan_terms.specs.declared.tree.Pattern.{Pattern}
use Rattle.elan_terms.specs.declared.tree.Shapes.{Shapes}
use Rattle.elan_terms.specs.Term.{same}
use Rattle.elan_terms.specs.Match.{has_sort, occurrences}
use Rattle.elan_fits.specs.Places.{side_by_side, placed}

-- a variable that has a value already must have this one; any other gets it, if it has the variable's sort
abbrev pub with_value : List Term → Option Term → Bool → Term → Option (List Term)
with_value values None sorted t = if sorted then Some (values ++ t ∷ []) else None
with_value values (Some u) sorted t = if same u t then Some values else None

-- the same of a variable by its number and sort
abbrev pub with_place : Shapes → ℕ → List Term → ℕ × SortId → Term → Option (List Term)
with_place shapes first values v t = with_value values (slice_get values (v.0 - first)) (has_sort shapes v.1 t) t

-- the values when each of these places of variables has the term beside it
abbrev pub with_places : Shapes → ℕ → List Term → List (ℕ × SortId) → List Term → Option (List Term)
with_places shapes first values [] [] = Some values
with_places shapes first values [] (t ∷ ts) = None
with_places shapes first values (v ∷ vs) [] = None
with_places shapes first values (v ∷ vs) (t ∷ ts)
    = option_and_then (λ more. with_places shapes first more vs ts) (with_place shapes first values v t)

-- the values when the pattern is the term, if they make it so
unfoldable pub values_at : Shapes → ℕ → List Term → Pattern → Term → Option (List Term)
values_at shapes first values p t = option_and_then (with_places shapes first values (occurrences p)) (placed p t)

-- the same where each of some patterns is the term beside it
unfoldable pub values_at_each : Shapes → ℕ → List Term → List Pattern → List Term → Option (List Term)
values_at_each shapes first values ps ts
    = option_and_then (with_places shapes first values (flat_map occurrences ps)) (side_by_side (map placed ps) ts)

-- the answer is whether there are values, and then these are they
abbrev pub Answers : Bool → List Term → Option (List Term) → Type 0
Answers is_match values expected = expected ≡ (if is_match then Some values else None)
