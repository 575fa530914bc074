-- The walk of a stream.
use Rattle.std.proofs.Common.{◌≡◌, ℕ, zero, suc, ◌+◌, List, [], ◌∷◌, ◌++◌, take, drop, refl, ap, arith, sym, Some, None, Result, Ok, Err}
use Rattle.elan_text.specs.declared.refusal.Place.{Place}
use Rattle.elan_phrases.specs.declared.span.Span.{Span}
use Rattle.elan_syntax.specs.declared.parts.LplOutline.{LplOutline}
use Rattle.elan_modules.specs.declared.flat.LoadedText.{LoadedText}
use Rattle.elan_modules.specs.declared.flat.Flat.{Flat}
use Rattle.elan_modules.specs.declared.flat.FlattenRefusal.{FlattenRefusal}
use Rattle.elan_modules.specs.declared.flat.FlattenRefusal.TheVariants.{Refused, LoaderFault, NoMemory}
use Rattle.elan_modules.specs.Walking.{Walk}
use Rattle.elan_modules.specs.Modules.{references_of}
use Rattle.elan_modules.specs.declared.walk.Reference.{Reference}
use Rattle.elan_modules.specs.declared.walk.Opening.{Opening}
use Rattle.elan_modules.specs.Visits.{Library, Halted, Refuses, Silent, Walked, Begun, next, fetched, begun_text, visit, visit_all, named_twice, taken_at, start, flat_of, walked, flattened}
use Rattle.elan_modules.specs.Walks.{Stock, Comes, Walks, Stays}
use Rattle.elan_modules.specs.Loads.{become, itself, walk_with}
use Rattle.elan_modules.proofs.HeardLemmas.{heard_begun_text}
use Rattle.elan_modules.proofs.AnswerLemmas.{answered_hungry, answered_error}
use Rattle.elan_loaders.proofs.AskLemmas.{none_fell}
use Rattle.elan_modules.proofs.WalkLemmas.{walks_then, walks_ended}
use Rattle.elan_modules.proofs.BeginLemmas.{stays_walks}

-- one item more in front
pub take_next : {A : Type 0} (xs : List A) (n : ℕ) (x : A) (rest : List A) → x ∷ rest ≡ drop n xs → take (n + 1) xs ≡ take n xs ++ x ∷ []
take_next [] zero x rest e = absurd cc
take_next [] (suc n) x rest e = absurd cc
take_next (y ∷ ys) zero x rest e = cc
take_next (y ∷ ys) (suc n) x rest e =
    let more : suc n + 1 ≡ suc (n + 1) = omega arith in rw more (ap (λ zs. y ∷ zs) (take_next ys n x rest e))

-- ---- walks

-- a stock with other texts
abbrev pub among : Stock → List LoadedText → Stock
among s texts = record { loaders = s.loaders; texts = texts }

-- a call that is refused memory before any loader is asked, wherever the texts stand
pub hungry_still : {A V : Type 0} (d : Library → Result A Halted) (s : Stock) (texts : List LoadedText) (view : V → A)
    → Walks d s (among s texts) view (Err NoMemory)
hungry_still d s texts view = record {
  comes = λ library sound. tt;
  answered = λ said can of. answered_hungry d s.loaders.told said texts view can;
  moved = record { told = refl; misses = none_fell s.loaders.misses; failures = none_fell s.loaders.failures };
  fault = λ is. absurd cc;
  absent = λ is. absurd cc;
  alone = λ is. (record { misses = refl; failures = refl }, refl);
}

-- an error, for a call that answers another value, wherever the texts stand
pub walks_error : {A V W : Type 0} (d : Library → Result A Halted) (s t : Stock) (texts : List LoadedText)
    (view : V → A) (see : W → A)
    (why : FlattenRefusal) → Walks d s t view (Err why) → Walks d s (among t texts) see (Err why)
walks_error {A} d s t texts view see (Refused r) is = record {
  answered = λ said can of. answered_error d s.loaders.told said t.texts texts view see (Refused r)
      (is.answered said can of);
  comes = λ library sound. go (d library) (is.comes library sound);
  moved = record { told = is.moved.told; misses = is.moved.misses; failures = is.moved.failures };
  fault = λ fault. absurd cc;
  absent = is.absent;
  alone = λ silent.
      let one = is.alone silent in (record { misses = one.0.misses; failures = one.0.failures }, refl);
}
  where
    go : (x : Result A Halted) → Comes view (Err (Refused r)) x → Comes see (Err (Refused r)) x
    go (Ok a) is = is
    go (Err (Refuses s)) is = is
    go (Err Silent) is = is
walks_error d s t texts view see LoaderFault is = record {
  answered = λ said can of. answered_error d s.loaders.told said t.texts texts view see LoaderFault
      (is.answered said can of);
  comes = λ library sound. tt;
  moved = record { told = is.moved.told; misses = is.moved.misses; failures = is.moved.failures };
  fault = is.fault;
  absent = is.absent;
  alone = λ silent.
      let one = is.alone silent in (record { misses = one.0.misses; failures = one.0.failures }, one.1);
}
walks_error d s t texts view see NoMemory is = record {
  answered = λ said can of. answered_error d s.loaders.told said t.texts texts view see NoMemory
      (is.answered said can of);
  comes = λ library sound. tt;
  moved = record { told = is.moved.told; misses = is.moved.misses; failures = is.moved.failures };
  fault = is.fault;
  absent = is.absent;
  alone = λ silent.
      let one = is.alone silent in (record { misses = one.0.misses; failures = one.0.failures }, one.1);
}

-- a walk that is given
pub walks_given : (d : Library → Walked) (s t : Stock) (walk : Walk) → Walks d s t (become walk) (Ok tt)
    → Walks d s t itself (Ok walk)
walks_given d s t walk is = record {
  answered = λ said can of.
      let one = is.answered said can of in
      record { said = one.said; is_answer = one.is_answer; extends = one.extends; stops = one.stops };
  comes = λ library sound. go (d library) (is.comes library sound);
  moved = is.moved;
  fault = λ fault. absurd cc;
  absent = λ absent. absurd cc;
  alone = λ silent. ((is.alone silent).0, refl);
}
  where
    go : (x : Walked) → Comes (become walk) (Ok tt) x → Comes itself (Ok walk) x
    go (Ok a) is = is
    go (Err (Refuses r)) is = is
    go (Err Silent) is = is

-- the only module of a text that was loaded is begun
pub begins_new : (walk : Walk) (r : Reference) (s t : Stock) (text : LoadedText) (view : Opening → Begun)
    (result : Result Opening FlattenRefusal)
    → Walks (λ library. fetched walk r (library r.name.bytes)) s t (walk_with walk) (Ok text)
    → Stays view result (begun_text r (walk_with walk text))
    → Walks (λ library. next (fetched walk r (library r.name.bytes)) (begun_text r)) s t view result
begins_new walk r s t text view result first stays = walks_then (λ library. fetched walk r (library r.name.bytes))
    (λ library. begun_text r) (walk_with walk) view s t t text result first
    (stays_walks view result (begun_text r (walk_with walk text)) t (heard_begun_text r (walk_with walk text)) stays)

-- ---- the stream

pub walks_twice : (stream : LoadedText) (lpl : LplOutline) (at : Place) (s : Stock) (texts : List LoadedText)
    → named_twice stream [] stream.modules ≡ Some at
    → Walks (λ library. walked library stream lpl) s (among s texts) itself (Err (Refused (taken_at at)))
unfolding walked
walks_twice stream lpl at s texts is = rw is
    (walks_error (λ _. Err (Refuses (taken_at at))) s s texts itself itself (Refused (taken_at at))
    (stays_walks itself (Err (Refused (taken_at at))) (Err (Refuses (taken_at at))) s refl
    (record { comes = refl; fault = refl; absent = refl })))

pub walks_once : {V : Type 0} (stream : LoadedText) (lpl : LplOutline) (s t : Stock) (view : V → Walk)
    (result : Result V FlattenRefusal)
    → named_twice stream [] stream.modules ≡ None
    → Walks (λ library. visit_all (visit 256 library) [] (start stream) (references_of stream [] [] lpl.imports)) s t view result
    → Walks (λ library. walked library stream lpl) s t view result
unfolding walked
walks_once stream lpl s t view result is walks = rw is walks

pub flat_then : (stream : LoadedText) (lpl : LplOutline) (query : Span) (s t : Stock) (walk : Walk)
    (result : Result Flat FlattenRefusal) → Walks (λ library. walked library stream lpl) s t itself (Ok walk)
    → Stays itself result (Ok (flat_of lpl query walk)) → Walks (λ library. flattened library stream lpl query) s t itself result
flat_then stream lpl query s t walk result is stays = walks_then (λ library. walked library stream lpl)
    (λ library walk. Ok (flat_of lpl query walk)) itself itself s t t walk result is
    (stays_walks itself result (Ok (flat_of lpl query walk)) t refl stays)

pub flat_ended : (stream : LoadedText) (lpl : LplOutline) (query : Span) (s t : Stock) (why : FlattenRefusal)
    → Walks (λ library. walked library stream lpl) s t itself (Err why)
    → Walks (λ library. flattened library stream lpl query) s t itself (Err why)
flat_ended stream lpl query s t why is = walks_ended (λ library. walked library stream lpl)
    (λ library walk. Ok (flat_of lpl query walk)) itself itself s t why is

pub flat_given : (flat wanted : Flat) → flat ≡ wanted → Stays itself (Ok flat) (Ok wanted)
flat_given flat wanted is = record { comes = sym is; fault = refl; absent = refl }
