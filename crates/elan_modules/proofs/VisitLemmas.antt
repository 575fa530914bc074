-- The visit of a reference.
use Rattle.std.proofs.Common.{◌≡◌, ◌≤◌, ◌<◌, ℕ, zero, suc, ◌+◌, ◌-◌, true, false, List, [], ◌∷◌, ◌++◌, length, nat_le, Result, Ok, Err, refl, sym, ap, ◌∙◌, subst, arith, get_or, drop}
use Rattle.std.specs.List.{list_any}
use Rattle.std.specs.Result.{IsErrAnd}
use Rattle.std.proofs.lemmas.List.{length-append}
use Rattle.std.proofs.lemmas.Bool.{leb-false}
use Rattle.elan_text.specs.declared.name.Name.{Name}
use Rattle.elan_text.specs.declared.refusal.Code.TheVariants.{E08, E14}
use Rattle.elan_modules.specs.declared.flat.FlattenRefusal.{FlattenRefusal}
use Rattle.elan_modules.specs.declared.flat.FlattenRefusal.TheVariants.{NoMemory}
use Rattle.elan_modules.specs.Walking.{Walk}
use Rattle.elan_modules.specs.declared.walk.Reference.{Reference}
use Rattle.elan_modules.specs.declared.walk.Opening.{Opening}
use Rattle.elan_modules.specs.Visits.{Library, Visiting, next, begun, completed, finished, is_named_by, is_instance, most_instances, refusal_at, refused_at, visit_all, visit_step, visit}
use Rattle.elan_modules.specs.Walks.{Stock, Walks, Stays, Is}
use Rattle.elan_modules.specs.Loads.{begun_with, become}
use Rattle.elan_modules.proofs.WalkLemmas.{walks_then, walks_ended}
use Rattle.elan_modules.proofs.BeginLemmas.{stays_walks, stays_refused, stays_hungry, walks_same}

-- ---- what a visit is, whatever may be begun below it

module _ (path : List Name) (walk : Walk) (r : Reference) where
  -- the name is on the path
  visit-on : (n : ℕ) (library : Library) → list_any (is_named_by r) path ≡ true → visit n library path walk r ≡ refused_at E08 r
  unfolding visit visit_step
  visit-on zero library on = rw on refl
  visit-on (suc n) library on = rw on refl

  -- the instance is finished
  visit-done : (n : ℕ) (library : Library) → list_any (is_named_by r) path ≡ false → list_any (is_instance r) walk.done ≡ true
      → visit n library path walk r ≡ Ok walk
  unfolding visit visit_step
  visit-done zero library off done = rw (off, done) refl
  visit-done (suc n) library off done = rw (off, done) refl

  -- too many instances were begun
  visit-full : (n : ℕ) (library : Library) → list_any (is_named_by r) path ≡ false → list_any (is_instance r) walk.done ≡ false
      → nat_le most_instances (length path + length walk.done) ≡ true → visit n library path walk r ≡ refused_at E14 r
  unfolding visit visit_step
  visit-full zero library off new full = rw (off, new, full) refl
  visit-full (suc n) library off new full = rw (off, new, full) refl

  -- the instance is begun
  visit-begun : (n : ℕ) (library : Library) → list_any (is_named_by r) path ≡ false → list_any (is_instance r) walk.done ≡ false
      → nat_le most_instances (length path + length walk.done) ≡ false
      → visit (suc n) library path walk r ≡ next (begun library walk r) (completed (visit n library) path r)
  unfolding visit visit_step
  visit-begun n library off new room = rw (off, new, room) refl

  module _ (n : ℕ) (s : Stock) where
    pub visits_on : (why : FlattenRefusal) → list_any (is_named_by r) path ≡ true → Is (refusal_at E08 r) why
        → Walks (λ library. visit n library path walk r) s s (become walk) (Err why)
    visits_on why on is = walks_same (λ _. refused_at E08 r) _ s s (become walk) (Err why) (λ library. visit-on n library on)
        (stays_walks (become walk) (Err why) (refused_at E08 r) s refl
        (stays_refused (become walk) (refusal_at E08 r) why refl is))

    pub visits_done : list_any (is_named_by r) path ≡ false → list_any (is_instance r) walk.done ≡ true
        → Walks (λ library. visit n library path walk r) s s (become walk) (Ok tt)
    visits_done off done = walks_same (λ _. Ok walk) _ s s (become walk) (Ok tt) (λ library. visit-done n library off done)
        (stays_walks (become walk) (Ok tt) (Ok walk) s refl (record { comes = refl; fault = refl; absent = refl }))

    pub visits_full : (why : FlattenRefusal) → list_any (is_named_by r) path ≡ false → list_any (is_instance r) walk.done ≡ false
        → nat_le most_instances (length path + length walk.done) ≡ true → Is (refusal_at E14 r) why
        → Walks (λ library. visit n library path walk r) s s (become walk) (Err why)
    visits_full why off new full is = walks_same (λ _. refused_at E14 r) _ s s (become walk) (Err why)
        (λ library. visit-full n library off new full)
        (stays_walks (become walk) (Err why) (refused_at E14 r) s refl
        (stays_refused (become walk) (refusal_at E14 r) why refl is))

  pub visits_begun : (n m : ℕ) (s t : Stock) (view : Unit {0} → Walk) (result : Result (Unit {0}) FlattenRefusal)
      → n ≡ suc m
      → list_any (is_named_by r) path ≡ false → list_any (is_instance r) walk.done ≡ false
      → nat_le most_instances (length path + length walk.done) ≡ false
      → Walks (λ library. next (begun library walk r) (completed (visit m library) path r)) s t view result
      → Walks (λ library. visit n library path walk r) s t view result
  visits_begun n m s t view result above off new room walks = walks_same _ _ s t view result
      (λ library. ap (λ k. visit k library path walk r) above ∙ visit-begun m library off new room) walks

-- ---- an instance that is begun, imports and is finished

-- an error that is known is the only one
pub err_is : {V : Type 0} (result : Result V FlattenRefusal) (why : FlattenRefusal) → IsErrAnd result (λ e. e ≡ why) → result ≡ Err why
err_is (Ok v) why is = absurd is
err_is (Err e) why is = ap (λ z. Err z) is

module _ (walk w : Walk) (r : Reference) (path longer : List Name) (references : List Reference) (opening : Opening)
    (s m t : Stock)
    (first : Walks (λ library. begun library walk r) s m (begun_with w) (Ok opening))
    (is_longer : longer ≡ path ++ r.name ∷ []) (are_imports : references ≡ opening.imports) where
  -- how the references of the module are visited
  abbrev Inner : Library → Visiting
  Inner library = visit (256 - (length path + 1)) library

  inner : {view : Unit {0} → Walk} {result : Result (Unit {0}) FlattenRefusal}
      → Walks (λ library. visit_all (visit (256 - length longer) library) longer w references) m t view result
      → Walks (λ library. visit_all (Inner library) (path ++ r.name ∷ []) w opening.imports) m t view result
  inner {view} {result} walks =
      let here : Walks (λ library. visit_all (visit (256 - length (path ++ r.name ∷ [])) library) (path ++ r.name ∷ []) w opening.imports) m t view result =
      rw (sym is_longer, sym are_imports) walks in
      subst (λ n. Walks (λ library. visit_all (visit (256 - n) library) (path ++ r.name ∷ []) w opening.imports) m t view result)
      (length-append path (r.name ∷ [])) here

  -- the whole, once the imports and what follows them are known
  whole : {view : Unit {0} → Walk} {result : Result (Unit {0}) FlattenRefusal}
      → Walks (λ library. completed (Inner library) path r (begun_with w opening)) m t view result
      → Walks (λ library. next (begun library walk r) (completed (Inner library) path r)) s t view result
  whole {view} {result} second = walks_then (λ library. begun library walk r) (λ library. completed (Inner library) path r)
      (begun_with w) view s m t opening result first second

  pub completes_ended : (view see : Unit {0} → Walk) (why : FlattenRefusal)
      → Walks (λ library. visit_all (visit (256 - length longer) library) longer w references) m t view (Err why)
      → Walks (λ library. next (begun library walk r) (completed (Inner library) path r)) s t see (Err why)
  completes_ended view see why walks = whole (walks_ended
      (λ library. visit_all (Inner library) (path ++ r.name ∷ []) w opening.imports) (λ library further. Ok (finished r opening.origin further))
      view see m t why (inner walks))

  module _ (done : Walk)
      (walks : Walks (λ library. visit_all (visit (256 - length longer) library) longer w references) m t (become done) (Ok tt)) where
    behind : (view : Unit {0} → Walk) (result : Result (Unit {0}) FlattenRefusal) → Stays view result (Ok (finished r opening.origin done))
        → Walks (λ library. next (begun library walk r) (completed (Inner library) path r)) s t view result
    behind view result stays = whole (walks_then (λ library. visit_all (Inner library) (path ++ r.name ∷ []) w opening.imports)
        (λ library further. Ok (finished r opening.origin further)) (become done) view m t t tt result (inner walks)
        (stays_walks view result (Ok (finished r opening.origin done)) t refl stays))

    pub completes_finished : Walks (λ library. next (begun library walk r) (completed (Inner library) path r)) s t
        (become (finished r opening.origin done)) (Ok tt)
    completes_finished = behind (become (finished r opening.origin done)) (Ok tt) (record { comes = refl; fault = refl; absent = refl })

    pub completes_hungry : (view : Unit {0} → Walk)
        → Walks (λ library. next (begun library walk r) (completed (Inner library) path r)) s t view (Err NoMemory)
    completes_hungry view = behind view (Err NoMemory) (stays_hungry view (Ok (finished r opening.origin done)))

-- ---- references one after the other

-- no reference is left
pub visits_none : (visiting : Library → Visiting) (path : List Name) (walk : Walk) (s : Stock)
    → Walks (λ library. visit_all (visiting library) path walk []) s s (become walk) (Ok tt)
unfolding visit_all
visits_none visiting path walk s =
    stays_walks (become walk) (Ok tt) (Ok walk) s refl (record { comes = refl; fault = refl; absent = refl })

-- one reference, and then the others
pub visits_next : (visiting : Library → Visiting) (path : List Name) (walk further : Walk) (r : Reference) (rs : List Reference)
    (s t u : Stock) (view : Unit {0} → Walk) (result : Result (Unit {0}) FlattenRefusal)
    → Walks (λ library. visiting library path walk r) s t (become further) (Ok tt)
    → Walks (λ library. visit_all (visiting library) path further rs) t u view result
    → Walks (λ library. visit_all (visiting library) path walk (r ∷ rs)) s u view result
unfolding visit_all
visits_next visiting path walk further r rs s t u view result one others =
    walks_then (λ library. visiting library path walk r) (λ library further. visit_all (visiting library) path further rs)
    (become further) view s t u tt result one others

-- one reference, which ends the walk
pub visits_ended : (visiting : Library → Visiting) (path : List Name) (walk : Walk) (r : Reference) (rs : List Reference)
    (s t : Stock) (view see : Unit {0} → Walk) (why : FlattenRefusal)
    → Walks (λ library. visiting library path walk r) s t view (Err why)
    → Walks (λ library. visit_all (visiting library) path walk (r ∷ rs)) s t see (Err why)
unfolding visit_all
visits_ended visiting path walk r rs s t view see why one =
    walks_ended (λ library. visiting library path walk r) (λ library further. visit_all (visiting library) path further rs)
    view see s t why one

-- where there is room, one more may be begun
pub one_less : (n k : ℕ) → nat_le 256 (n + k) ≡ false → 256 - n ≡ suc (256 - (n + 1))
one_less n k room = omega (arith, leb-false 256 (n + k) room)

-- ---- a list by its first item

pub visits_next_at : (visiting : Library → Visiting) (path : List Name) (walk further : Walk) (r : Reference) (rs rest : List Reference)
    (s t u : Stock) (view : Unit {0} → Walk) (result : Result (Unit {0}) FlattenRefusal) → r ≡ get_or rs 0 r
    → 1 ≤ length rs
    → rest ≡ drop 1 rs → Walks (λ library. visiting library path walk r) s t (become further) (Ok tt)
    → Walks (λ library. visit_all (visiting library) path further rest) t u view result
    → Walks (λ library. visit_all (visiting library) path walk rs) s u view result
visits_next_at visiting path walk further r [] rest s t u view result is some behind one others = absurd (omega (arith, some))
visits_next_at visiting path walk further r (x ∷ xs) rest s t u view result is some behind one others =
    visits_next visiting path walk further x xs s t u view result
    (subst (λ z. Walks (λ library. visiting library path walk z) s t (become further) (Ok tt)) is one)
    (subst (λ z. Walks (λ library. visit_all (visiting library) path further z) t u view result) behind others)

pub visits_ended_at : (visiting : Library → Visiting) (path : List Name) (walk : Walk) (r : Reference) (rs : List Reference)
    (s t : Stock) (view see : Unit {0} → Walk) (why : FlattenRefusal) → r ≡ get_or rs 0 r → 1 ≤ length rs
    → Walks (λ library. visiting library path walk r) s t view (Err why)
    → Walks (λ library. visit_all (visiting library) path walk rs) s t see (Err why)
visits_ended_at visiting path walk r [] s t view see why is some one = absurd (omega (arith, some))
visits_ended_at visiting path walk r (x ∷ xs) s t view see why is some one =
    visits_ended visiting path walk x xs s t view see why
    (subst (λ z. Walks (λ library. visiting library path walk z) s t view (Err why)) is one)

pub visits_none_at : (visiting : Library → Visiting) (path : List Name) (walk : Walk) (rs : List Reference) (s : Stock)
    → length rs < 1 → Walks (λ library. visit_all (visiting library) path walk rs) s s (become walk) (Ok tt)
visits_none_at visiting path walk [] s few = visits_none visiting path walk s
visits_none_at visiting path walk (x ∷ xs) s few = absurd (omega (arith, few))
