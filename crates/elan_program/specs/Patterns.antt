-- Which patterns are well-sorted, and which variables they use and bind.
use Rattle.std.specs.Prelude.{ℕ, suc, ◌^◌, ℤ, unsigned_abs, Bool, true, false, ◌&&◌, ◌==◌, if◌then◌else◌, nat_lt, nat_le, Option, Some, None, List, [], ◌∷◌, length, slice_get}
use Rattle.std.specs.List.{list_all, list_any}
use Rattle.elan_terms.specs.declared.tree.SortId.{SortId}
use Rattle.elan_terms.specs.declared.tree.Shape.{Shape}
use Rattle.elan_terms.specs.declared.tree.Shapes.{Shapes}
use Rattle.elan_terms.specs.declared.tree.Pattern.{Pattern}
use Rattle.elan_terms.specs.Trees.{fold_pattern}
use Rattle.elan_terms.specs.Match.{is_sort, occurrences, variables}

-- ---- sorts

-- whether an integer lies between -9,223,372,036,854,775,807 and 9,223,372,036,854,775,807
unfoldable pub is_in_range : ℤ → Bool
is_in_range z = nat_lt (unsigned_abs z) (2 ^ 63)

-- the sort of an integer, where it is in range
unfoldable pub sort_of_int : Shapes → ℤ → Option SortId
sort_of_int shapes z = if is_in_range z then shapes.int else None

-- whether arguments that have these sorts, or none, are of the wanted sorts
abbrev pub are_of_sorts : List SortId → List (Option SortId) → Bool
are_of_sorts [] [] = true
are_of_sorts (s ∷ ss) (found ∷ more) = is_sort found s && are_of_sorts ss more
are_of_sorts _ _ = false

-- whether all arguments are of one sort
abbrev pub are_all_of : SortId → List (Option SortId) → Bool
are_all_of s [] = true
are_all_of s (found ∷ more) = is_sort found s && are_all_of s more

-- An associative and commutative operator has two or more arguments of its sort. Another one has an argument of each of
-- its argument sorts.
unfoldable pub args_fit : Shape → List (Option SortId) → Bool
args_fit shape found = if shape.ac then nat_le 2 (length found) && are_all_of shape.sort found else are_of_sorts shape.args found

-- the sort of an operator over arguments of these sorts, where they fit it
abbrev pub sort_over : Option Shape → List (Option SortId) → Option SortId
sort_over None found = None
sort_over (Some shape) found = if args_fit shape found then Some shape.sort else None

-- The sort of a pattern that is valid for the shapes: its integers are in range, its operators are there, and each has
-- arguments that fit it. None where it is not valid.
unfoldable pub pattern_sort : Shapes → Pattern → Option SortId
pattern_sort shapes = fold_pattern (λ x s. Some s) (sort_of_int shapes) (λ op found. sort_over (slice_get shapes.shapes op.0) found)

-- ---- variables

-- whether a variable is among these, with the same sort
abbrev pub is_bound : List (ℕ × SortId) → ℕ × SortId → Bool
is_bound bound v = list_any (λ w. w.0 == v.0 && w.1.0 == v.1.0) bound

-- whether each variable of a pattern is among these, with the same sort
unfoldable pub uses : List (ℕ × SortId) → Pattern → Bool
uses bound p = list_all (is_bound bound) (occurrences p)

-- whether variables are numbered one after the other, from k on, and have one of so many sorts
abbrev pub are_numbered : ℕ → ℕ → List (ℕ × SortId) → Bool
are_numbered sorts k [] = true
are_numbered sorts k (v ∷ vs) = (v.0 == k && nat_lt v.1.0 sorts) && are_numbered sorts (suc k) vs

-- whether a pattern binds fresh variables: they are numbered from k on in order of first occurrence, and have one sort each
unfoldable pub binds : ℕ → ℕ → Pattern → Bool
binds sorts k p = are_numbered sorts k (variables p) && uses (variables p) p
