-- Small facts on nodes.
use Rattle.std.specs.Prelude.{◌≡◌, List, [], ◌∷◌, length, Bool, false, ◌||◌, ◌==◌, refl}
use Rattle.std.specs.List.{list_any}
use Rattle.std.proofs.Common.{ap, arith}
use Rattle.std.proofs.lemmas.Bool.Decides.{nat_tests}
use Rattle.elan_tree.specs.Tree.{Tree, Item, Open, Cat, First, Then, Trees, none, more, trees}
use Rattle.elan_tree.specs.Listing.{sure, any_sure, is_item, any_item, is_empty}
use Rattle.elan_tree.specs.Normal.{NotCat, NotEmpty, Under, Normal, Flats}
use Rattle.elan_tree.specs.Shape.{tree_of}
use Rattle.elan_tree.specs.declared.node.Shape.{Shape}
use Rattle.elan_tree.specs.declared.node.Shape.TheVariants as S

pub any_item-trees : {I O K : Type 0} (ts : List (Tree I O K)) → list_any is_item ts ≡ any_item (trees ts)
any_item-trees [] = refl
any_item-trees (t ∷ ts) = ap (λ b. is_item t || b) (any_item-trees ts)

pub is_empty-trees : {I O K : Type 0} (ts : List (Tree I O K)) → (length ts == 0) ≡ is_empty (Cat (trees ts))
is_empty-trees [] = refl
is_empty-trees (t ∷ ts) = grind (arith, nat_tests)

pub sure-not_cat : {I O K : Type 0} (t : Tree I O K) → NotCat t → sure t ≡ is_item t
sure-not_cat (Item i) h = refl
sure-not_cat (Open o) h = refl
sure-not_cat (Cat ts) h = absurd h
sure-not_cat (First one arms) h = refl
sure-not_cat (Then one t k) h = refl

pub sure-flats : {I O K : Type 0} (ts : Trees I O K) → Flats ts → any_sure ts ≡ any_item ts
sure-flats none h = refl
sure-flats (more t ts) h = λ i. sure-not_cat t h.0 i || sure-flats ts h.2 i

pub not_item : {I O K : Type 0} (s : Shape I O K) → ((i : I) → s ≡ S.Item i → ⊥) → is_item (tree_of s) ≡ false
not_item (S.Item i) h = absurd (h i refl)
not_item (S.Open o) h = refl
not_item (S.Cat kids) h = refl
not_item (S.First one arms) h = refl
not_item (S.Then one t k) h = refl

pub under_other : {I O K : Type 0} (one : Bool) (t : Tree I O K) → NotCat t → is_item t ≡ false → Normal t → Under one t × NotEmpty t × Normal t
under_other one (Item i) h other n = absurd (cc other)
under_other one (Open o) h other n = (tt, tt, n)
under_other one (Cat ts) h other n = absurd h
under_other one (First one' arms) h other n = (tt, tt, n)
under_other one (Then one' t k) h other n = (tt, tt, n)
