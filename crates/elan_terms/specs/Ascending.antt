-- Lists of terms in the term order.
use Rattle.std.specs.Prelude.{◌≡◌, List, IsFalse}
use Rattle.std.specs.List.{AllPairs}
use Rattle.std.specs.Ordering.{is_gt}
use Rattle.std.specs.declared.cmp.Ordering.TheVariants.{Less}
use Rattle.elan_terms.specs.declared.tree.Term.{Term}
use Rattle.elan_terms.specs.Term.{order}

-- the first stands before the second
abbrev pub Before : Term → Term → Type 0
Before t u = order t u ≡ Less

-- the first stands before the second, or they are equal
abbrev pub NotAfter : Term → Term → Type 0
NotAfter t u = IsFalse (is_gt (order t u))

-- none stands after one that comes later; equal ones may stand there
abbrev pub Ascends : List Term → Type 0
Ascends = AllPairs NotAfter

-- each stands before all that come later
abbrev pub AscendsStrictly : List Term → Type 0
AscendsStrictly = AllPairs Before
