-- A value that is a node of the operator over several of the terms.
use Rattle.std.specs.Prelude.{◌≡◌, ℕ, ◌<◌, Option, Some, None, List, [], ◌∷◌, length, IsFalse}
use Rattle.std.specs.declared.cmp.Ordering.{Ordering}
use Rattle.std.specs.declared.cmp.Ordering.TheVariants.{Less}
use Rattle.std.specs.Ordering.{nat_cmp, ordering_then, is_gt}
use Rattle.std.specs.Cmp.Lexicographic.{slice_cmp}
use Rattle.boxcar.specs.Table.{Where}
use Rattle.elan_terms.specs.declared.tree.OpId.{OpId}
use Rattle.elan_terms.specs.declared.tree.Term.{Term}
use Rattle.elan_terms.specs.declared.tree.Shapes.{Shapes}
use Rattle.elan_terms.specs.Trees.{app_term}
use Rattle.elan_terms.specs.Term.{order}
use Rattle.elan_laws.specs.Parts.{SomeOf}
use Rattle.elan_table.specs.Rows.{MayStand}
use Rattle.elan_table.specs.Nodes.{MayMake}
use Rattle.elan_shares.specs.declared.share.Places.{Places}
use Rattle.elan_shares.specs.Shares.{After}
use Rattle.elan_shares.specs.Sizes.{Fits}

-- ---- which terms may be arguments

-- the operator takes the term twice, and so however often
abbrev pub MayStandUnder : Shapes → OpId → Term → Type 0
MayStandUnder shapes op t = MayMake shapes op (t ∷ t ∷ [])

-- those of the terms of which a fact holds, in their order
pub data Kept (Fact : Term → Type 0) : List Term → List Term → Type 0 where
  ended : Kept Fact [] []
  kept : {t : Term} {ws us : List Term} → Fact t → Kept Fact ws us → Kept Fact (t ∷ ws) (t ∷ us)
  dropped : {t : Term} {ws us : List Term} → (Fact t → ⊥) → Kept Fact ws us → Kept Fact ws (t ∷ us)

-- ---- which lists of arguments come first

-- how nodes of one operator are ordered: by how many arguments they have, then lexicographically
abbrev pub args_order : List Term → List Term → Ordering
args_order xs ys = ordering_then (nat_cmp (length xs) (length ys)) (slice_cmp order xs ys)

-- a list is so, and comes after no list that is so
pub record IsFirst (Is : List Term → Type 0) (xs : List Term) : Type 0 where
  pub is : Is xs
  pub first : (ys : List Term) → Is ys → IsFalse (is_gt (args_order xs ys))

-- what is found is the first list that is so; nothing is found where no list is so
abbrev pub FindsFirst : (List Term → Type 0) → Option (List Term) → Type 0
FindsFirst Is None = (xs : List Term) → Is xs → ⊥
FindsFirst Is (Some xs) = IsFirst Is xs

-- some of `count` terms, as many as each place of the variable may take, of which a fact holds
pub record IsTaken (places : Places) (count : ℕ) (us : List Term) (Fact : List Term → Type 0) (xs : List Term) : Type 0 where
  pub some : SomeOf xs us
  pub fits : Fits places count (length xs)
  pub fact : Fact xs

-- the list has more terms than so many
abbrev pub IsLonger : ℕ → List Term → Type 0
IsLonger past xs = past < length xs

-- the list has as many terms as another and comes after it
abbrev pub IsNextTo : List Term → List Term → Type 0
IsNextTo past xs = (length xs ≡ length past) × (slice_cmp order past xs ≡ Less)

-- the list has more terms than another, or as many and comes after it
abbrev pub IsPast : List Term → List Term → Type 0
IsPast past xs = args_order past xs ≡ Less

-- at least two terms, and the operator over them comes after the floor
abbrev pub IsOver : OpId → Option (Where Term) → List Term → Type 0
IsOver op floor xs = (1 < length xs) × After floor (app_term op xs)

-- ---- nodes

-- A term that may stand in the table, after the floor: the operator over some of the terms, as many as each place may take.
pub record IsNode (shapes : Shapes) (op : OpId) (places : Places) (count : ℕ) (us : List Term) (floor : Option (Where Term)) (u : Term) : Type 0 where
  pub may : MayStand shapes u
  pub after : After floor u
  pub args : List Term
  pub whole : u ≡ app_term op args
  pub some : SomeOf args us
  pub fits : Fits places count (length args)
