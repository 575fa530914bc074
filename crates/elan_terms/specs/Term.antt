-- Terms: their sort, depth, order and canonical form.
use Rattle.std.specs.Prelude.{ℕ, ◌+◌, max, ℤ, Bool, false, if◌then◌else◌, ◌==◌, Option, Some, None, List, [], ◌∷◌, length, slice_get}
use Rattle.std.specs.declared.cmp.Ordering.{Ordering}
use Rattle.std.specs.declared.cmp.Ordering.TheVariants.{Less, Greater}
use Rattle.std.specs.Ordering.{nat_cmp, int_cmp, ordering_then, is_gt, is_eq}
use Rattle.std.specs.Cmp.Lexicographic.{slice_cmp}
use Rattle.std.specs.List.{flat_map}
use Rattle.elan_terms.specs.declared.tree.OpId.{OpId}
use Rattle.elan_terms.specs.declared.tree.SortId.{SortId}
use Rattle.elan_terms.specs.declared.tree.Term.{Term}
use Rattle.elan_terms.specs.declared.tree.Shape.{Shape}
use Rattle.elan_terms.specs.declared.tree.Shapes.{Shapes}
use Rattle.elan_terms.specs.Trees.{fold_term, case_term, int_term, app_term}

-- ---- sort

-- the sort that an operator makes, if there is such an operator
abbrev pub shape_sort : Option Shape → Option SortId
shape_sort None = None
shape_sort (Some shape) = Some shape.sort

-- None where the shapes do not have it
unfoldable pub sort_of : Shapes → Term → Option SortId
sort_of shapes = case_term (λ _. shapes.int) (λ op _. shape_sort (slice_get shapes.shapes op.0))

-- ---- depth

-- the greatest of these numbers, or 0
abbrev pub greatest : List ℕ → ℕ
greatest [] = 0
greatest (n ∷ ns) = max n (greatest ns)

-- 1 for an integer or a constant, else 1 more than the greatest depth of the arguments
unfoldable pub depth : Term → ℕ
depth = fold_term (λ _. 1) (λ _ ds. 1 + greatest ds)

-- ---- order

-- an integer stands before every application
abbrev pub int_order : ℤ → Term → Ordering
int_order z = case_term (int_cmp z) (λ _ _. Less)

-- by operator number, then by number of arguments, then lexicographically; each argument is given as its order
abbrev pub app_order : OpId → List (Term → Ordering) → Term → Ordering
app_order op args = case_term (λ _. Greater) (λ op' us.
    ordering_then (nat_cmp op.0 op'.0) (ordering_then (nat_cmp (length args) (length us)) (slice_cmp (λ before u. before u) args us)))

-- the term order
unfoldable pub order : Term → Term → Ordering
order = fold_term int_order app_order

-- whether the order holds two terms for equal, which it does exactly where they are
abbrev pub same : Term → Term → Bool
same t u = is_eq (order t u)

-- ---- canonical form

-- whether an operator is there and is associative and commutative
abbrev pub shape_ac : Option Shape → Bool
shape_ac None = false
shape_ac (Some shape) = shape.ac

-- the same of the operator with this number
unfoldable pub is_ac : Shapes → OpId → Bool
is_ac shapes op = shape_ac (slice_get shapes.shapes op.0)

-- the arguments that a canonical term brings under an operator
abbrev pub arms_under : OpId → Term → List Term
arms_under op t = case_term (λ _. t ∷ []) (λ op' us. if op.0 == op'.0 then us else t ∷ []) t

-- before the first that is greater
abbrev pub put_in : Term → List Term → List Term
put_in t [] = t ∷ []
put_in t (u ∷ us) = if is_gt (order t u) then u ∷ put_in t us else t ∷ u ∷ us

-- each term put into those that come after it
abbrev pub ascending : List Term → List Term
ascending [] = []
ascending (t ∷ ts) = put_in t (ascending ts)

-- the canonical node of canonical arguments
unfoldable pub node : Shapes → OpId → List Term → Term
node shapes op ts = app_term op (if is_ac shapes op then ascending (flat_map (arms_under op) ts) else ts)

-- the canonical form, from the innermost arguments out
unfoldable pub canon : Shapes → Term → Term
canon shapes = fold_term int_term (node shapes)
