-- Which lists are ahead of a place, when it grows by an item and when it gives its last item up.
use Rattle.std.proofs.Common.{◌≡◌, refl, sym, ap, ◌∙◌, subst, ◌<◌, true, false, Option, Some, None, List, [], ◌∷◌, ◌++◌, length, is_gt, arith}
use Rattle.std.specs.declared.cmp.Ordering.{Ordering}
use Rattle.std.specs.declared.cmp.Ordering.TheVariants.{Less, Equal, Greater}
use Rattle.std.specs.Ordering.{ordering_then}
use Rattle.std.specs.Cmp.{IsTotalOrder}
use Rattle.std.specs.FinMap.{IsAntisymmetric}
use Rattle.std.specs.Cmp.Lexicographic.{slice_cmp}
use Rattle.elan_search.specs.Place.{by_item, IsAheadBy}

-- ---- orderings are not one another

pub never : {A : Type 0} → true ≡ false → A
never e = absurd (no e)
  where
    no : true ≡ false → ⊥
    no f = cc

pub equal_not_less : {A : Type 0} → Equal ≡ Less → A
equal_not_less e = absurd (no e)
  where
    no : Equal ≡ Less → ⊥
    no f = cc

greater_not_less : {A : Type 0} → Greater ≡ Less → A
greater_not_less e = absurd (no e)
  where
    no : Greater ≡ Less → ⊥
    no f = cc

nil_cons : {A : Type 0} {X : Type 0} {x : X} {xs : List X} → [] ≡ x ∷ xs → A
nil_cons {x = x} {xs = xs} e = absurd (no e)
  where
    no : [] ≡ x ∷ xs → ⊥
    no f = cc

module _ {K : Type 0} (compare : K → K → Ordering) (total : IsTotalOrder compare) (antisymmetric : IsAntisymmetric compare) (itself : (x : K) → compare x x ≡ Equal) where
  -- an item comes after the floor, where there is one
  abbrev pub AfterBy : Option K → K → Type 0
  AfterBy None u = Unit {0}
  AfterBy (Some f) u = compare f u ≡ Less

  pub after_head : (floor : Option K) (x : K) (xs : List K) → IsAheadBy compare [] floor (x ∷ xs) → AfterBy floor x
  after_head None x xs h = tt
  after_head (Some f) x xs h = h

  pub head_after : (floor : Option K) (x : K) (xs : List K) → AfterBy floor x → IsAheadBy compare [] floor (x ∷ xs)
  head_after None x xs h = tt
  head_after (Some f) x xs h = h

  onwards : (floor : Option K) (u x : K) → AfterBy floor u → compare u x ≡ Less → AfterBy floor x
  onwards None u x h lt = tt
  onwards (Some f) u x h lt = total.trans f u x h lt

  -- ---- a place grows

  grown_on : (u x : K) (o : Ordering) → is_gt o ≡ false → by_item o (Unit {0})
  grown_on u x Less h = tt
  grown_on u x Equal h = tt
  grown_on u x Greater h = never h

  grown_back : (floor : Option K) (u x : K) (o : Ordering) → compare u x ≡ o → AfterBy floor u → by_item o (Unit {0}) → AfterBy floor x
  grown_back floor u x Less e h k = onwards floor u x h e
  grown_back floor u x Equal e h k = subst (AfterBy floor) (antisymmetric u x e) h
  grown_back floor u x Greater e h k = elim k [ ]

  same_head : (d x : K) (o : Ordering) (A B : Type 0) → compare d x ≡ o → (d ≡ x → A → B) → by_item o A → by_item o B
  same_head d x Less A B e f h = tt
  same_head d x Equal A B e f h = f (antisymmetric d x e) h
  same_head d x Greater A B e f h = h

  -- what bounds the next item goes behind the others: what was ahead is ahead
  pub grown_ahead : (done : List K) (floor : Option K) (u : K) (a : List K) → length done < length a
      → ((v : K) (rest : List K) → a ≡ done ++ v ∷ rest → AfterBy floor v → is_gt (compare u v) ≡ false)
      → IsAheadBy compare done floor a → IsAheadBy compare (done ++ u ∷ []) None a
  grown_ahead [] floor u [] l h k = absurd (omega arith)
  grown_ahead [] floor u (x ∷ xs) l h k = grown_on u x (compare u x) (h x xs refl (after_head floor x xs k))
  grown_ahead (d ∷ done) floor u [] l h k = absurd (omega arith)
  grown_ahead (d ∷ done) floor u (x ∷ xs) l h k = same_head d x (compare d x) _ _ refl
      (λ e. grown_ahead done floor u xs (omega arith) (λ v rest same after. h v rest (ap (λ ys. x ∷ ys) same ∙ ap (λ y. y ∷ done ++ v ∷ rest) (sym e)) after)) k

  -- and what is ahead then was ahead before
  pub ahead_grown : (done : List K) (floor : Option K) (u : K) (a : List K) → length done < length a → AfterBy floor u
      → IsAheadBy compare (done ++ u ∷ []) None a → IsAheadBy compare done floor a
  ahead_grown [] floor u [] l h k = absurd (omega arith)
  ahead_grown [] floor u (x ∷ xs) l h k = head_after floor x xs (grown_back floor u x (compare u x) refl h k)
  ahead_grown (d ∷ done) floor u [] l h k = absurd (omega arith)
  ahead_grown (d ∷ done) floor u (x ∷ xs) l h k = same_head d x (compare d x) _ _ refl (λ e. ahead_grown done floor u xs (omega arith) h) k

  -- ---- a place gives its last item up

  last_on : (u x : K) (o : Ordering) (A : Type 0) → compare u x ≡ o → (u ≡ x → A → ⊥) → by_item o A → compare u x ≡ Less
  last_on u x Less A e f h = e
  last_on u x Equal A e f h = absurd (f (antisymmetric u x e) h)
  last_on u x Greater A e f h = elim h [ ]

  last_back : (o : Ordering) (A : Type 0) → o ≡ Less → by_item o A
  last_back Less A e = tt
  last_back Equal A e = equal_not_less e
  last_back Greater A e = greater_not_less e

  -- none begins with all of its items, so what is ahead comes after the last one
  pub back_ahead : (done : List K) (u : K) (floor : Option K) (a : List K)
      → ((rest : List K) → a ≡ done ++ u ∷ rest → IsAheadBy compare [] floor rest → ⊥)
      → IsAheadBy compare (done ++ u ∷ []) floor a → IsAheadBy compare done (Some u) a
  back_ahead [] u floor [] h k = k
  back_ahead [] u floor (x ∷ xs) h k = last_on u x (compare u x) _ refl (λ e. h xs (ap (λ y. y ∷ xs) (sym e))) k
  back_ahead (d ∷ done) u floor [] h k = k
  back_ahead (d ∷ done) u floor (x ∷ xs) h k = same_head d x (compare d x) _ _ refl
      (λ e. back_ahead done u floor xs (λ rest same. h rest (ap (λ ys. x ∷ ys) same ∙ ap (λ y. y ∷ done ++ u ∷ rest) (sym e)))) k

  pub ahead_back : (done : List K) (u : K) (floor : Option K) (a : List K) → IsAheadBy compare done (Some u) a → IsAheadBy compare (done ++ u ∷ []) floor a
  ahead_back [] u floor [] k = k
  ahead_back [] u floor (x ∷ xs) k = last_back (compare u x) _ k
  ahead_back (d ∷ done) u floor [] k = k
  ahead_back (d ∷ done) u floor (x ∷ xs) k = same_head d x (compare d x) _ _ refl (λ e. ahead_back done u floor xs) k

  -- ---- places of whole lists

  by_same : (o : Ordering) (A : Type 0) → o ≡ Equal → A → by_item o A
  by_same Less A e h = tt
  by_same Equal A e h = h
  by_same Greater A e h = absurd (no e)
    where
      no : Greater ≡ Equal → ⊥
      no f = cc

  pub ahead_itself : (done : List K) → IsAheadBy compare done None done
  ahead_itself [] = tt
  ahead_itself (d ∷ done) = by_same (compare d d) _ (itself d) (ahead_itself done)

  not_after : (o p : Ordering) (A : Type 0) → (A → is_gt p ≡ false) → by_item o A → is_gt (ordering_then o p) ≡ false
  not_after Less p A f h = refl
  not_after Equal p A f h = f h
  not_after Greater p A f h = elim h [ ]

  -- of a list that is as long, a place is not after what is ahead of it
  pub ahead_not_before : (done a : List K) → length a ≡ length done → IsAheadBy compare done None a → is_gt (slice_cmp compare done a) ≡ false
  ahead_not_before [] [] l h = refl
  ahead_not_before [] (x ∷ xs) l h = absurd (omega arith)
  ahead_not_before (d ∷ done) [] l h = absurd (omega arith)
  ahead_not_before (d ∷ done) (x ∷ xs) l h = not_after (compare d x) _ _ (ahead_not_before done xs (omega arith)) h

  after_on : (o p : Ordering) (A : Type 0) → (p ≡ Less → A) → ordering_then o p ≡ Less → by_item o A
  after_on Less p A f e = tt
  after_on Equal p A f e = f e
  after_on Greater p A f e = greater_not_less e

  after_back : (o p : Ordering) (A : Type 0) → (A → p ≡ Less) → by_item o A → ordering_then o p ≡ Less
  after_back Less p A f h = refl
  after_back Equal p A f h = f h
  after_back Greater p A f h = elim h [ ]

  last_less : (o : Ordering) → ordering_then o Equal ≡ Less → o ≡ Less
  last_less Less e = refl
  last_less Equal e = e
  last_less Greater e = e

  -- the lists that are as long and come after another are ahead of its place, whose last item is the floor
  pub later_ahead : (done : List K) (u : K) (a : List K) → length a ≡ length (done ++ u ∷ []) → slice_cmp compare (done ++ u ∷ []) a ≡ Less → IsAheadBy compare done (Some u) a
  later_ahead [] u [] l h = absurd (omega arith)
  later_ahead [] u (x ∷ []) l h = last_less (compare u x) h
  later_ahead [] u (x ∷ y ∷ ys) l h = absurd (omega arith)
  later_ahead (d ∷ done) u [] l h = absurd (omega arith)
  later_ahead (d ∷ done) u (x ∷ xs) l h = after_on (compare d x) _ _ (later_ahead done u xs (omega arith)) h

  pub ahead_later : (done : List K) (u : K) (a : List K) → IsAheadBy compare done (Some u) a → slice_cmp compare (done ++ u ∷ []) a ≡ Less
  ahead_later [] u [] h = elim h [ ]
  ahead_later [] u (x ∷ xs) h = ap (λ o. ordering_then o (slice_cmp compare [] xs)) h
  ahead_later (d ∷ done) u [] h = elim h [ ]
  ahead_later (d ∷ done) u (x ∷ xs) h = after_back (compare d x) _ _ (ahead_later done u xs) h
