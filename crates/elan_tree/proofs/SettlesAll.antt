-- Loops that settle children.
use Rattle.std.specs.Prelude.{◌≡◌, ℕ, ◌+◌, ◌<◌, List, [], ◌∷◌, ◌++◌, length, take, drop}
use Rattle.std.proofs.Common.{zero, suc, sym, ◌∙◌, ap, subst, arith, get_or, set}
use Rattle.std.proofs.lemmas.List.{take_more_set, drop-set-lt, drop_more}
use Rattle.elan_tree.specs.Sense.{Sense}
use Rattle.elan_tree.specs.Tree.{Tree, Trees, Arms, arm, trees}
use Rattle.elan_tree.specs.Normal.{Normal, Flats, Normals, NormalArms, NotCat, Waits, AllWait}
use Rattle.elan_tree.specs.Settling.{Fit, Fits, FitArms, Settles, SettlesAll, SettlesArms}
use Rattle.elan_tree.specs.Marks.{Place}
use Rattle.elan_tree.specs.declared.node.Arm.{Arm}
use Rattle.elan_tree.specs.Shape.{arms_of}
use Rattle.elan_tree.proofs.Stars.{star_trans, stars_here, stars_later, stars_arm, stars_arm_later}

module _ {I O K : Type 0} where
  pub wait_at : (xs : List (Tree I O K)) (i : ℕ) (d : Tree I O K) → AllWait (trees xs) → i < length xs → Waits (get_or xs i d)
  wait_at [] i d h lt = absurd (omega arith)
  wait_at (x ∷ xs) zero d h lt = h.0
  wait_at (x ∷ xs) (suc i) d h lt = wait_at xs i d h.1 (omega arith)

  pub wait_drop : (xs : List (Tree I O K)) (i : ℕ) → AllWait (trees xs) → AllWait (trees (drop i xs))
  wait_drop xs zero h = h
  wait_drop [] (suc i) h = tt
  wait_drop (x ∷ xs) (suc i) h = wait_drop xs i h.1

  pub flats_push : (xs : List (Tree I O K)) (t : Tree I O K) → Flats (trees xs) → NotCat t → Normal t → Flats (trees (xs ++ t ∷ []))
  flats_push [] t h c n = (c, n, tt)
  flats_push (x ∷ xs) t h c n = (h.0, h.1, flats_push xs t h.2 c n)

  pub normals_push : (xs : List (Tree I O K)) (t : Tree I O K) → Normals (trees xs) → Normal t → Normals (trees (xs ++ t ∷ []))
  normals_push [] t h n = (n, tt)
  normals_push (x ∷ xs) t h n = (h.0, normals_push xs t h.1 n)

module _ {B I K M : Type 0} (w : Sense B I K M) (kin : ℕ) where
  pub fit_at : (xs : List (Tree I (Place B) K)) (i : ℕ) (d : Tree I (Place B) K) → Fits w kin (trees xs) → i < length xs → Fit w kin (get_or xs i d)
  fit_at [] i d h lt = absurd (omega arith)
  fit_at (x ∷ xs) zero d h lt = h.0
  fit_at (x ∷ xs) (suc i) d h lt = fit_at xs i d h.1 (omega arith)

  pub fit_drop : (xs : List (Tree I (Place B) K)) (i : ℕ) → Fits w kin (trees xs) → Fits w kin (trees (drop i xs))
  fit_drop xs zero h = h
  fit_drop [] (suc i) h = tt
  fit_drop (x ∷ xs) (suc i) h = fit_drop xs i h.1

  -- one child is settled
  pub settle_at : (xs : List (Tree I (Place B) K)) (i : ℕ) (d new : Tree I (Place B) K) → i < length xs → Settles w kin (get_or xs i d) new
      → SettlesAll w kin (trees xs) (trees (set xs i new))
  settle_at [] i d new lt s = absurd (omega arith)
  settle_at (x ∷ xs) zero d new lt s = stars_here (trees xs) s
  settle_at (x ∷ xs) (suc i) d new lt s = stars_later x (settle_at xs i d new (omega arith) s)

  pub settle_then : (all : Trees I (Place B) K) (xs : List (Tree I (Place B) K)) (i : ℕ) (old new : Tree I (Place B) K) → SettlesAll w kin all (trees xs)
      → i < length xs → old ≡ get_or xs i old → Settles w kin old new → SettlesAll w kin all (trees (set xs i new))
  settle_then all xs i old new before lt e s =
      let P : Tree I (Place B) K → Type 0 = λ x. Settles w kin x new in
      star_trans before (settle_at xs i old new lt (subst P e s))

  -- the children that are left, once child i was settled
  pub rest_fits : (xs : List (Tree I (Place B) K)) (i : ℕ) (d new : Tree I (Place B) K) → i < length xs → Fits w kin (trees (drop i xs))
      → Fits w kin (trees (drop (i + 1) (set xs i new)))
  rest_fits xs i d new lt h =
      let P : List (Tree I (Place B) K) → Type 0 = λ x. Fits w kin (trees x) in
      let both : Fits w kin (trees (get_or xs i d ∷ drop (i + 1) xs)) = subst P (drop_more xs i d lt) h in
      subst P (sym (drop-set-lt (i + 1) xs i new (omega arith))) both.1

  pub this_fits : (xs : List (Tree I (Place B) K)) (i : ℕ) (d : Tree I (Place B) K) → i < length xs → d ≡ get_or xs i d → Fits w kin (trees (drop i xs)) → Fit w kin d
  this_fits xs i d lt e h =
      let P : List (Tree I (Place B) K) → Type 0 = λ x. Fits w kin (trees x) in
      let both : Fits w kin (trees (get_or xs i d ∷ drop (i + 1) xs)) = subst P (drop_more xs i d lt) h in
      subst (Fit w kin) (sym e) both.0

module _ {I O K : Type 0} where
  pub rest_waits : (xs : List (Tree I O K)) (i : ℕ) (d new : Tree I O K) → i < length xs → AllWait (trees (drop i xs)) → AllWait (trees (drop (i + 1) (set xs i new)))
  rest_waits xs i d new lt h =
      let P : List (Tree I O K) → Type 0 = λ x. AllWait (trees x) in
      let both : AllWait (trees (get_or xs i d ∷ drop (i + 1) xs)) = subst P (drop_more xs i d lt) h in
      subst P (sym (drop-set-lt (i + 1) xs i new (omega arith))) both.1

  pub first_flats : (xs : List (Tree I O K)) (i : ℕ) (new : Tree I O K) → i < length xs → Flats (trees (take i xs)) → NotCat new → Normal new
      → Flats (trees (take (i + 1) (set xs i new)))
  first_flats xs i new lt h c n =
      let P : List (Tree I O K) → Type 0 = λ x. Flats (trees x) in
      subst P (sym (take_more_set xs i new lt)) (flats_push (take i xs) new h c n)

  pub first_normals : (xs : List (Tree I O K)) (i : ℕ) (new : Tree I O K) → i < length xs → Normals (trees (take i xs)) → Normal new
      → Normals (trees (take (i + 1) (set xs i new)))
  first_normals xs i new lt h n =
      let P : List (Tree I O K) → Type 0 = λ x. Normals (trees x) in
      subst P (sym (take_more_set xs i new lt)) (normals_push (take i xs) new h n)

-- ---- alternatives
module _ {B I K M : Type 0} (w : Sense B I K M) (kin : ℕ) where
  pub settle_arm_at : (xs : List (Arm I (Place B) K)) (i : ℕ) (d new : Arm I (Place B) K) → i < length xs → (new.then ≡ (get_or xs i d).then)
      → Settles w kin (get_or xs i d).node.value new.node.value → SettlesArms w kin (arms_of xs) (arms_of (set xs i new))
  settle_arm_at [] i d new lt e s = absurd (omega arith)
  settle_arm_at (x ∷ xs) zero d new lt e s =
      let P : K → Type 0 = λ k. SettlesArms w kin (arm x.node.value x.then (arms_of xs)) (arm new.node.value k (arms_of xs)) in
      subst P (sym e) (stars_arm x.then (arms_of xs) s)
  settle_arm_at (x ∷ xs) (suc i) d new lt e s = stars_arm_later x.node.value x.then (settle_arm_at xs i d new (omega arith) e s)

  pub settle_arm_then : (all : Arms I (Place B) K) (xs : List (Arm I (Place B) K)) (i : ℕ) (old new : Arm I (Place B) K) → SettlesArms w kin all (arms_of xs)
      → i < length xs → old ≡ get_or xs i old → new.then ≡ old.then → Settles w kin old.node.value new.node.value
      → SettlesArms w kin all (arms_of (set xs i new))
  settle_arm_then all xs i old new before lt e f s =
      let P : Arm I (Place B) K → Type 0 = λ x. Settles w kin x.node.value new.node.value in
      star_trans before (settle_arm_at xs i old new lt (f ∙ ap (λ a. a.then) e) (subst P e s))

  pub rest_arms_fit : (xs : List (Arm I (Place B) K)) (i : ℕ) (d new : Arm I (Place B) K) → i < length xs → FitArms w kin (arms_of (drop i xs))
      → FitArms w kin (arms_of (drop (i + 1) (set xs i new)))
  rest_arms_fit xs i d new lt h =
      let P : List (Arm I (Place B) K) → Type 0 = λ x. FitArms w kin (arms_of x) in
      let both : FitArms w kin (arms_of (get_or xs i d ∷ drop (i + 1) xs)) = subst P (drop_more xs i d lt) h in
      subst P (sym (drop-set-lt (i + 1) xs i new (omega arith))) both.2

  pub this_arm_fits : (xs : List (Arm I (Place B) K)) (i : ℕ) (d : Arm I (Place B) K) → i < length xs → d ≡ get_or xs i d → FitArms w kin (arms_of (drop i xs))
      → Fit w kin d.node.value
  this_arm_fits xs i d lt e h =
      let P : List (Arm I (Place B) K) → Type 0 = λ x. FitArms w kin (arms_of x) in
      let Q : Arm I (Place B) K → Type 0 = λ x. Fit w kin x.node.value in
      let both : FitArms w kin (arms_of (get_or xs i d ∷ drop (i + 1) xs)) = subst P (drop_more xs i d lt) h in
      subst Q (sym e) both.0

module _ {I O K : Type 0} where
  normal_arms_push : (xs : List (Arm I O K)) (a : Arm I O K) → NormalArms (arms_of xs) → Normal a.node.value → NormalArms (arms_of (xs ++ a ∷ []))
  normal_arms_push [] a h n = (n, tt)
  normal_arms_push (x ∷ xs) a h n = (h.0, normal_arms_push xs a h.1 n)

  pub first_arms : (xs : List (Arm I O K)) (i : ℕ) (new : Arm I O K) → i < length xs → NormalArms (arms_of (take i xs)) → Normal new.node.value
      → NormalArms (arms_of (take (i + 1) (set xs i new)))
  first_arms xs i new lt h n =
      let P : List (Arm I O K) → Type 0 = λ x. NormalArms (arms_of x) in
      subst P (sym (take_more_set xs i new lt)) (normal_arms_push (take i xs) new h n)

-- what the loop has yet to visit is as it was
pub still : {A : Type 0} (xs all : List A) (i : ℕ) (d new : A) → i < length xs → length xs ≡ length all → drop i xs ≡ drop i all → drop (i + 1) (set xs i new) ≡ drop (i + 1) all
still xs all i d new lt e f =
    let one = drop_more xs i d lt in
    let two = drop_more all i d (omega arith) in
    drop-set-lt (i + 1) xs i new (omega arith) ∙ ap (drop 1) (sym one ∙ f ∙ two)
