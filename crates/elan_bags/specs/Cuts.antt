-- Where a term stands to a list that ascends.
use Rattle.std.specs.Prelude.{ℕ, ◌+◌, if◌then◌else◌, List, [], ◌∷◌}
use Rattle.std.specs.declared.cmp.Ordering.{Ordering}
use Rattle.std.specs.declared.cmp.Ordering.TheVariants.{Less}
use Rattle.std.specs.Ordering.{is_gt}
use Rattle.elan_terms.specs.declared.tree.Term.{Term}
use Rattle.elan_terms.specs.Term.{order, same}

-- how a term stands to the first of a list; before it where there is none
abbrev pub against : Term → List Term → Ordering
against t [] = Less
against t (u ∷ us) = order t u

-- those from the first on that does not stand before the term
abbrev pub since : Term → List Term → List Term
since t [] = []
since t (u ∷ us) = if is_gt (order t u) then since t us else u ∷ us

-- those from the first on that stands after the term
abbrev pub beyond : Term → List Term → List Term
beyond t [] = []
beyond t (u ∷ us) = if is_gt (order u t) then u ∷ us else beyond t us

-- how many equal terms were passed together with this one, where so many of the last one were
abbrev pub counted : Term → ℕ → Term → ℕ
counted last seen u = if same last u then seen + 1 else 1
