-- An open place as the code keeps it: with a mark that tells the places that were made last.
use Rattle.std.specs.Prelude.{◌≡◌, ℕ, List, [], ◌∷◌, Bool, true, false, if◌then◌else◌}
use Rattle.std.specs.Coded.{Coded, coded_bool}
use base.Stored.{coded×, coded_via}
use Rattle.boxcar.specs.Table.{Where, where_coded}
use Rattle.elan_tree.specs.Tree.{Tree, Trees, Arms, over, all_over, arms_over}
use Rattle.elan_tree.specs.Places.{numbered}

-- the spot of an open place, and whether the place is new
pub record Place (B : Type 0) : Type 0 where
  pub spot : Where B
  pub fresh : Bool

-- by this code places are told apart
abbrev pub place_code : {B : Type 0} → Coded B → Coded (Place B)
place_code {B} b = coded_via (coded× (where_coded b) coded_bool) (λ (p : Place B). (p.spot, p.fresh)) (λ x y e i. record { spot = (e i).0; fresh = (e i).1 })

-- the branch of a place
abbrev pub branch_at : {B : Type 0} → Place B → B
branch_at p = p.spot.value

-- whether the spot of a place has this number
abbrev pub at_place : {B : Type 0} → ℕ → Place B → Bool
at_place n p = numbered n p.spot

-- a place that is not new
abbrev pub seen : {B : Type 0} → Where B → Place B
seen s = record { spot = s; fresh = false }

-- the tree without the marks
abbrev pub plain : {B I K : Type 0} → Tree I (Place B) K → Tree I (Where B) K
plain {B} t = over (λ (p : Place B). p.spot) t

-- the tree with no place marked as new
abbrev pub unmarked : {B I K : Type 0} → Tree I (Place B) K → Tree I (Place B) K
unmarked t = over seen (plain t)

-- the same of children, and of alternatives
abbrev pub all_unmarked : {B I K : Type 0} → Trees I (Place B) K → Trees I (Place B) K
all_unmarked {B} ts = all_over seen (all_over (λ (p : Place B). p.spot) ts)

abbrev pub arms_unmarked : {B I K : Type 0} → Arms I (Place B) K → Arms I (Place B) K
arms_unmarked {B} arms = arms_over seen (arms_over (λ (p : Place B). p.spot) arms)

-- a new place of a branch
abbrev pub IsFresh : {B : Type 0} → B → Place B → Type 0
IsFresh b p = (p.spot.value ≡ b) × (p.fresh ≡ true)

-- the spots of the new places
abbrev pub fresh_spots : {B : Type 0} → List (Place B) → List (Where B)
fresh_spots [] = []
fresh_spots (p ∷ ps) = if p.fresh then p.spot ∷ fresh_spots ps else fresh_spots ps
