-- A tree that is over.
use Rattle.std.specs.Prelude.{◌≡◌, ℕ, ◌≤◌, length, map, take, List, [], ◌∷◌, ◌++◌, ◌⊎◌, refl}
use Rattle.std.proofs.Common.{zero, suc, sym, ◌∙◌, ap, subst, arith, append-nil, inl, inr}
use Rattle.std.proofs.lemmas.List.{take_at}
use Rattle.elan_tree.specs.Sense.{Sense}
use Rattle.elan_tree.specs.Tree.{Cat, none}
use Rattle.elan_tree.specs.Standing.{Standing, whole, tree_list, Sound, ItemsOfKin}

pub length-map : {A B : Type 0} (f : A → B) (xs : List A) → length (map f xs) ≡ length xs
length-map f [] = refl
length-map f (x ∷ xs) = ap suc (length-map f xs)

take_whole : {A : Type 0} (n : ℕ) (xs : List A) → length xs ≤ n → take n xs ≡ xs
take_whole zero [] h = refl
take_whole zero (x ∷ xs) h = absurd (omega arith)
take_whole (suc n) [] h = refl
take_whole (suc n) (x ∷ xs) h = ap (λ l. x ∷ l) (take_whole n xs (omega arith))

module _ {B I K M : Type 0} (w : Sense B I K M) where
  over_list : (s : Standing B I K) → length s.released ≤ s.limit → (length s.released ≡ s.limit) ⊎ (s.tree ≡ Cat none) → map w.means s.released ≡ take s.limit (whole w s)
  over_list s h (inl full) = sym (take_at (map w.means s.released) (tree_list w s.tree) s.limit (length-map w.means s.released ∙ full))
  over_list s h (inr gone) =
      let empty : whole w s ≡ map w.means s.released = ap (λ t. map w.means s.released ++ tree_list w t) gone ∙ append-nil (map w.means s.released) in
      sym (take_whole s.limit (map w.means s.released) (omega (arith, length-map w.means s.released))) ∙ ap (take s.limit) (sym empty)

  -- what a tree that is over released is the first items of what it began with
  pub finished : (old new : Standing B I K) (items : List I) → Sound w old → Sound w new → new.root ≡ old.root → new.limit ≡ old.limit
      → (length new.released ≡ new.limit) ⊎ (new.tree ≡ Cat none) → items ≡ new.released → map w.means items ≡ take old.limit (whole w old)
  finished old new items h k e f over g =
      ap (map w.means) g ∙ over_list new k.within over ∙ k.first ∙ (λ i. take (f i) (w.items (e i).value)) ∙ sym h.first

  -- the items are of the kin of the root that the tree began with
  pub finished_kin : (old new : Standing B I K) (items : List I) → new.root ≡ old.root → ItemsOfKin w (w.kin new.root.value) items → ItemsOfKin w (w.kin old.root.value) items
  finished_kin old new items e h = subst (λ r. ItemsOfKin w (w.kin r.value) items) e h
