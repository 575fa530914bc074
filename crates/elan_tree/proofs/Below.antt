-- A node whose parts were settled.
use Rattle.std.specs.Prelude.{◌≡◌, ℕ, Bool}
use Rattle.std.proofs.Common.{sym, ◌∙◌, ap, subst, Vec, Box, Global}
use Rattle.elan_tree.specs.Sense.{Sense}
use Rattle.elan_tree.specs.Tree.{Tree, Cat, First, Then, trees}
use Rattle.elan_tree.specs.Shape.{tree_of, arms_of}
use Rattle.elan_tree.specs.Moves.{done}
use Rattle.elan_tree.specs.Settling.{Settles, SettlesAll, SettlesArms}
use Rattle.elan_tree.specs.Marks.{Place}
use Rattle.elan_tree.specs.declared.node.Arm.{Arm}
use Rattle.elan_tree.specs.declared.node.Shape.{Shape}
use Rattle.elan_tree.specs.declared.node.Shape.TheVariants as S
use Rattle.elan_tree.proofs.Stars.{stars_cat, stars_first, stars_then}

module _ {B I K M : Type 0} (w : Sense B I K M) (kin : ℕ) where
  between : (n t u v : Tree I (Place B) K) → t ≡ n → u ≡ v → Settles w kin t u → Settles w kin n v
  between n t u v e f s =
      let P : Tree I (Place B) K → Type 0 = λ x. Settles w kin x v in
      subst P e (subst (Settles w kin t) f s)

  pub below_cat : (s s' : Shape I (Place B) K) (n : Tree I (Place B) K) (kids kids' : Vec (Tree I (Place B) K) Global) → tree_of s ≡ n → s ≡ S.Cat kids → s' ≡ S.Cat kids'
      → SettlesAll w kin (trees kids.items) (trees kids'.items) → Settles w kin n (tree_of s')
  below_cat s s' n kids kids' e f h st =
      between n (Cat (trees kids.items)) (Cat (trees kids'.items)) (tree_of s') (sym (ap tree_of f) ∙ e) (sym (ap tree_of h)) (stars_cat st)

  pub below_first : (s s' : Shape I (Place B) K) (n : Tree I (Place B) K) (one : Bool) (arms arms' : Vec (Arm I (Place B) K) Global) → tree_of s ≡ n → s ≡ S.First one arms
      → s' ≡ S.First one arms' → SettlesArms w kin (arms_of arms.items) (arms_of arms'.items) → Settles w kin n (tree_of s')
  below_first s s' n one arms arms' e f h st =
      between n (First one (arms_of arms.items)) (First one (arms_of arms'.items)) (tree_of s') (sym (ap tree_of f) ∙ e) (sym (ap tree_of h)) (stars_first one st)

  pub below_then : (s s' : Shape I (Place B) K) (n : Tree I (Place B) K) (one : Bool) (c c' : Box (Tree I (Place B) K) Global) (k : K) → tree_of s ≡ n → s ≡ S.Then one c k
      → s' ≡ S.Then one c' k → Settles w kin c.value c'.value → Settles w kin n (tree_of s')
  below_then s s' n one c c' k e f h st =
      between n (Then one c.value k) (Then one c'.value k) (tree_of s') (sym (ap tree_of f) ∙ e) (sym (ap tree_of h)) (stars_then one k st)

  pub below_same : (s s' : Shape I (Place B) K) (n : Tree I (Place B) K) → tree_of s ≡ n → s' ≡ s → Settles w kin n (tree_of s')
  below_same s s' n e f = subst (Settles w kin n) (sym (ap tree_of f ∙ e)) done
