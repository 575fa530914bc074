-- What each function that settles a tree owes.
use Rattle.std.specs.Prelude.{◌≡◌, ℕ, Bool}
use Rattle.std.proofs.Common.{sym, subst}
use Rattle.elan_tree.specs.Sense.{Sense}
use Rattle.elan_tree.specs.Tree.{Tree, Item, Cat, Then, Trees, none}
use Rattle.elan_tree.specs.Moves.{resume, over_empty}
use Rattle.elan_tree.specs.Settling.{Makes, Settles}
use Rattle.elan_tree.specs.Marks.{Place}
use Rattle.elan_tree.proofs.Stars.{star_one}

module _ {B I K M : Type 0} (w : Sense B I K M) (kin : ℕ) where
  pub resumed : (one : Bool) (t u : Tree I (Place B) K) (i : I) (k l : K) → Item i ≡ t → l ≡ k → Makes w kin l i u → Settles w kin (Then one t k) u
  resumed one t u i k l e f m =
      let P : Tree I (Place B) K → Type 0 = λ x. Settles w kin (Then one x k) u in
      let Q : K → Type 0 = λ x. Makes w kin x i u in
      subst P e (star_one (resume (subst Q f m)))

  pub emptied : (one : Bool) (k : K) (t : Tree I (Place B) K) (ts : Trees I (Place B) K) → Cat ts ≡ t → ts ≡ none → Settles w kin (Then one t k) (Cat ts)
  emptied one k t ts e f =
      let P : Tree I (Place B) K → Type 0 = λ x. Settles w kin (Then one x k) (Cat ts) in
      let Q : Trees I (Place B) K → Type 0 = λ x. Settles w kin (Then one (Cat x) k) (Cat x) in
      subst P e (subst Q (sym f) (star_one over_empty))
