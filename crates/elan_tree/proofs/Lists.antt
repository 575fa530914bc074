-- Each step keeps the list of the tree.
use Rattle.std.specs.Prelude.{◌≡◌, List, [], ◌∷◌, ◌++◌, Bool, true, false, ◌||◌, refl, ◌⊎◌}
use Rattle.std.proofs.Common.{sym, ◌∙◌, ap, inl, inr, append-nil}
use Rattle.std.proofs.lemmas.List.{append_assoc as append-assoc}
use Rattle.elan_tree.specs.Tree.{Tree, Item, Open, Cat, First, Then, Trees, none, more, Arms}
use Rattle.elan_tree.specs.Listing.{cut, each, if_any, list, lists, first_list, sure, any_sure}
use Rattle.elan_tree.specs.Moves.{join, pushed, Cuts, cut_here, cut_later, Move, grow, single, drop_front, no_arms, over_empty, commit, cuts, push, resume, in_cat, in_first, in_then, Moves, splice, here, later, ArmMoves, arm_here, arm_later}

pub each-append : {M : Type 0} (f : M → List M) (xs ys : List M) → each f (xs ++ ys) ≡ each f xs ++ each f ys
each-append f [] ys = refl
each-append f (x ∷ xs) ys = ap (λ zs. f x ++ zs) (each-append f xs ys) ∙ sym (append-assoc (f x) (each f xs) (each f ys))

pub cut-nil : {M : Type 0} (one : Bool) → cut {M = M} one [] ≡ []
cut-nil true = refl
cut-nil false = refl

pub cut-single : {M : Type 0} (one : Bool) (m : M) → cut one (m ∷ []) ≡ m ∷ []
cut-single true m = refl
cut-single false m = refl

-- a list is not empty
pub IsMore : {M : Type 0} → List M → Type 0
IsMore [] = ⊥
IsMore (m ∷ ms) = Unit {0}

pub if_any-more : {M : Type 0} (xs ys zs : List M) → IsMore xs → if_any xs ys zs ≡ ys
unfolding IsMore
if_any-more [] ys zs h = absurd h
if_any-more (x ∷ xs) ys zs h = refl

pub cut-more : {M : Type 0} (xs ys : List M) → IsMore xs → cut true (xs ++ ys) ≡ cut true xs
unfolding IsMore
cut-more [] ys h = absurd h
cut-more (x ∷ xs) ys h = refl

pub cut-both : {M : Type 0} (xs ys zs : List M) → cut true ys ≡ cut true zs → cut true (xs ++ ys) ≡ cut true (xs ++ zs)
cut-both [] ys zs h = h
cut-both (x ∷ xs) ys zs h = refl

pub more-left : {M : Type 0} (xs ys : List M) → IsMore xs → IsMore (xs ++ ys)
unfolding IsMore
more-left [] ys h = absurd h
more-left (x ∷ xs) ys h = tt

pub more-right : {M : Type 0} (xs ys : List M) → IsMore ys → IsMore (xs ++ ys)
unfolding IsMore
more-right [] ys h = h
more-right (x ∷ xs) ys h = tt

pub no : {A : Type 0} → false ≡ true → A
no h = absurd (cc h)

pub or_cases : (a b : Bool) → (a || b) ≡ true → (a ≡ true) ⊎ (b ≡ true)
or_cases true b h = inl refl
or_cases false b h = inr h

module _ {I O K M : Type 0} (means : I → M) (at : O → List M) (after : K → M → List M) where
  mutual
    unfolding IsMore

    pub sure_more : (t : Tree I O K) → sure t ≡ true → IsMore (list means at after t)
    sure_more (Item i) h = tt
    sure_more (Open o) h = no h
    sure_more (Cat ts) h = any_sure_more ts h
    sure_more (First one arms) h = no h
    sure_more (Then one t k) h = no h

    pub any_sure_more : (ts : Trees I O K) → any_sure ts ≡ true → IsMore (lists means at after ts)
    any_sure_more none h = no h
    any_sure_more (more t ts) h =
        elim (or_cases (sure t) (any_sure ts) h) [
          | inl s ↦ more-left (list means at after t) (lists means at after ts) (sure_more t s)
          | inr s ↦ more-right (list means at after t) (lists means at after ts) (any_sure_more ts s)
        ]

  pub lists-join : (ts us : Trees I O K) → lists means at after (join ts us) ≡ lists means at after ts ++ lists means at after us
  lists-join none us = refl
  lists-join (more t ts) us =
      ap (λ ms. list means at after t ++ ms) (lists-join ts us) ∙ sym (append-assoc (list means at after t) (lists means at after ts) (lists means at after us))

  pub lists-pushed : (k : K) (ts : Trees I O K) → lists means at after (pushed k ts) ≡ each (after k) (lists means at after ts)
  lists-pushed k none = refl
  lists-pushed k (more t ts) =
      ap (λ ms. each (after k) (list means at after t) ++ ms) (lists-pushed k ts)
      ∙ sym (each-append (after k) (list means at after t) (lists means at after ts))

  pub cut-cuts : {ts us : Trees I O K} → Cuts ts us → cut true (lists means at after ts) ≡ cut true (lists means at after us)
  cut-cuts (cut_here {t = t} {u = u} {ts = ts} s) =
      let m = sure_more t s in
      cut-more (list means at after t) (lists means at after (more u ts)) m ∙ sym (cut-more (list means at after t) [] m)
  cut-cuts (cut_later {t = t} {ts = ts} {us = us} s c) = cut-both (list means at after t) (lists means at after ts) (lists means at after us) (cut-cuts c)

  -- The list of a tree is kept by each step inside it, where it is kept by growing and resuming.
  module _ (Grows : O → Tree I O K → Type 0) (Resumes : K → I → Tree I O K → Type 0)
      (grows : (o : O) (t : Tree I O K) → Grows o t → list means at after t ≡ at o)
      (resumes : (k : K) (i : I) (t : Tree I O K) → Resumes k i t → list means at after t ≡ after k (means i)) where
    mutual
      pub move_list : {t u : Tree I O K} → Move Grows Resumes t u → list means at after t ≡ list means at after u
      move_list (grow {o = o} {t = t} g) = sym (grows o t g)
      move_list (single {t = t}) = append-nil (list means at after t)
      move_list (drop_front {one = one} {k = k} {arms = arms}) = refl
      move_list (no_arms {one = one}) = refl
      move_list (over_empty {one = one} {k = k}) = ap (each (after k)) (cut-nil one)
      move_list (commit {one = one} {t = t} {k = k} {arms = arms} s) =
          if_any-more (list means at after t) _ (first_list means at after one arms) (sure_more t s)
      move_list (cuts {ts = ts} {us = us} {k = k} c) = ap (each (after k)) (cut-cuts c)
      move_list (push {ts = ts} {k = k}) = sym (lists-pushed k ts)
      move_list (resume {one = one} {i = i} {k = k} {t = t} r) =
          ap (each (after k)) (cut-single one (means i)) ∙ append-nil (after k (means i)) ∙ sym (resumes k i t r)
      move_list (in_cat m) = moves_list m
      move_list (in_first {one = one} m) = arm_moves_list one m
      move_list (in_then {one = one} {k = k} m) = ap (λ ms. each (after k) (cut one ms)) (move_list m)

      pub moves_list : {ts us : Trees I O K} → Moves Grows Resumes ts us → lists means at after ts ≡ lists means at after us
      moves_list (splice {ts = ts} {us = us}) = sym (lists-join ts us)
      moves_list (here {ts = ts} m) = ap (λ ms. ms ++ lists means at after ts) (move_list m)
      moves_list (later {t = t} m) = ap (λ ms. list means at after t ++ ms) (moves_list m)

      pub arm_moves_list : (one : Bool) {xs ys : Arms I O K} → ArmMoves Grows Resumes xs ys → first_list means at after one xs ≡ first_list means at after one ys
      arm_moves_list one (arm_here {k = k} {arms = arms} m) = ap (λ ms. if_any ms (each (after k) (cut one ms)) (first_list means at after one arms)) (move_list m)
      arm_moves_list one (arm_later {t = t} {k = k} m) = ap (λ ms. if_any (list means at after t) (each (after k) (cut one (list means at after t))) ms) (arm_moves_list one m)
