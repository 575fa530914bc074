-- The tree of a growth, built place by place.
use Rattle.std.specs.Prelude.{◌≡◌, ◌<◌, length, List, [], ◌∷◌, ◌++◌, remove}
use Rattle.std.specs.declared.sync.Arc.{Arc}
use Rattle.std.specs.declared.alloc.Global.{Global}
use Rattle.std.proofs.Common.{sym, ◌∙◌, ap, subst, arith, get_or, append-nil}
use Rattle.std.proofs.lemmas.List.{append_assoc}
use Rattle.elan_tree.specs.Tree.{Tree, Trees, Arms, trees}
use Rattle.elan_tree.specs.Shape.{arms_of}
use Rattle.elan_tree.specs.Planting.{Posted, AllPosted, ArmsPosted}
use Rattle.elan_tree.specs.declared.node.Arm.{Arm}

pub head_is : {A : Type 0} (xs rest : List A) (a : A) → 0 < length xs → a ≡ get_or xs 0 a → rest ≡ remove xs 0 → xs ≡ a ∷ rest
head_is [] rest a lt e f = absurd (omega arith)
head_is (x ∷ xs) rest a lt e f = λ i. sym e i ∷ sym f i

module _ {B I O K : Type 0} (Is : B → O → Type 0) where
  posted_push : (bs : List B) (xs : List (Tree I O K)) (b : B) (t : Tree I O K) → AllPosted Is bs (trees xs) → Posted Is b t
      → AllPosted Is (bs ++ b ∷ []) (trees (xs ++ t ∷ []))
  posted_push [] [] b t h k = (k, tt)
  posted_push [] (x ∷ xs) b t h k = absurd h
  posted_push (y ∷ bs) [] b t h k = absurd h
  posted_push (y ∷ bs) (x ∷ xs) b t h k = (h.0, posted_push bs xs b t h.1 k)

  -- one more branch is posted
  pub planted_next : (all done xs rest : List B) (b : B) (kids new : List (Tree I O K)) (t : Tree I O K) → done ++ xs ≡ all → AllPosted Is done (trees kids)
      → xs ≡ b ∷ rest → Posted Is b t → new ≡ kids ++ t ∷ []
      → (so_far : List B) × (so_far ++ rest ≡ all) × AllPosted Is so_far (trees new)
  planted_next all done xs rest b kids new t e h f k g =
      let P : List (Tree I O K) → Type 0 = λ l. AllPosted Is (done ++ b ∷ []) (trees l) in
      (done ++ b ∷ [], append_assoc done (b ∷ []) rest ∙ ap (λ l. done ++ l) (sym f) ∙ e, subst P (sym g) (posted_push done kids b t h k))

  pub planted_all : (all done xs : List B) (kids : Trees I O K) → done ++ xs ≡ all → xs ≡ [] → AllPosted Is done kids → AllPosted Is all kids
  planted_all all done xs kids e f h =
      let P : List B → Type 0 = λ l. AllPosted Is l kids in
      subst P (sym (append-nil done) ∙ ap (λ l. done ++ l) (sym f) ∙ e) h

  arms_push : (bs : List (B × Arc K Global)) (xs : List (Arm I O K)) (b : B × Arc K Global) (a : Arm I O K) → ArmsPosted Is bs (arms_of xs)
      → Posted Is b.0 a.node.value → a.then ≡ b.1.value → ArmsPosted Is (bs ++ b ∷ []) (arms_of (xs ++ a ∷ []))
  arms_push [] [] b a h k e = (k, e, tt)
  arms_push [] (x ∷ xs) b a h k e = absurd h
  arms_push (y ∷ bs) [] b a h k e = absurd h
  arms_push (y ∷ bs) (x ∷ xs) b a h k e = (h.0, h.1, arms_push bs xs b a h.2 k e)

  pub scope_next : (all done xs rest : List (B × Arc K Global)) (b : B × Arc K Global) (arms new : List (Arm I O K)) (a : Arm I O K) → done ++ xs ≡ all
      → ArmsPosted Is done (arms_of arms) → xs ≡ b ∷ rest → Posted Is b.0 a.node.value → a.then ≡ b.1.value → new ≡ arms ++ a ∷ []
      → (so_far : List (B × Arc K Global)) × (so_far ++ rest ≡ all) × ArmsPosted Is so_far (arms_of new)
  scope_next all done xs rest b arms new a e h f k l g =
      let P : List (Arm I O K) → Type 0 = λ x. ArmsPosted Is (done ++ b ∷ []) (arms_of x) in
      (done ++ b ∷ [], append_assoc done (b ∷ []) rest ∙ ap (λ x. done ++ x) (sym f) ∙ e, subst P (sym g) (arms_push done arms b a h k l))

  pub scope_all : (all done xs : List (B × Arc K Global)) (arms : Arms I O K) → done ++ xs ≡ all → xs ≡ [] → ArmsPosted Is done arms → ArmsPosted Is all arms
  scope_all all done xs arms e f h =
      let P : List (B × Arc K Global) → Type 0 = λ l. ArmsPosted Is l arms in
      subst P (sym (append-nil done) ∙ ap (λ l. done ++ l) (sym f) ∙ e) h
