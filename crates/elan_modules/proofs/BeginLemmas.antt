-- Instances that are begun.
use Rattle.std.proofs.Common.{◌≡◌, ℕ, List, true, false, Option, Some, None, Result, Ok, Err, refl, sym, subst}
use Rattle.elan_text.specs.declared.refusal.Code.TheVariants.{E05}
use Rattle.elan_text.specs.declared.refusal.Refusal.{Refusal}
use Rattle.elan_modules.specs.declared.flat.FlattenRefusal.{FlattenRefusal}
use Rattle.elan_modules.specs.declared.flat.FlattenRefusal.TheVariants.{Refused, LoaderFault, NoMemory}
use Rattle.elan_modules.specs.declared.flat.LoadedText.{LoadedText}
use Rattle.elan_modules.specs.Walking.{Walk}
use Rattle.elan_modules.specs.declared.walk.Reference.{Reference}
use Rattle.elan_modules.specs.declared.walk.Opening.{Opening}
use Rattle.elan_modules.specs.declared.walk.Spot.{Spot}
use Rattle.elan_modules.specs.declared.flat.Standard.{Standard}
use Rattle.elan_modules.specs.Modules.{Found, find, is_name, standard_of}
use Rattle.elan_modules.specs.Finds.{Stands, Finds}
use Rattle.elan_modules.specs.Visits.{is_e06, Library, Halted, Refuses, Silent, Begun, next, fetched, located_or, located, begun_text, begun_standard, begun, refusal_at}
use Rattle.elan_modules.specs.Walks.{Stock, Comes, Walks, Stays, Is, is_silent}
use Rattle.elan_modules.proofs.AnswerLemmas.{stops_under}
use Rattle.elan_modules.proofs.HeardLemmas.{heard_begun_text, heard_standard}
use Rattle.elan_modules.proofs.WalkLemmas.{walks_still}

-- ---- calls that ask no loader

module _ {A B V W : Type 0} (view : V → A) (see : W → B) where
  pub stays_then : (d : Result A Halted) (more : A → Result B Halted) (v : V) (w : W) → Stays view (Ok v) d
      → more (view v) ≡ Ok (see w) → Stays see (Ok w) (next d more)
  stays_then (Ok a) more v w is e = record {
    comes = subst (λ z. Comes see (Ok w) (more z)) (sym is.comes) (rw e refl);
    fault = refl;
    absent = refl;
  }
  stays_then (Err (Refuses r)) more v w is e = absurd is.comes
  stays_then (Err Silent) more v w is e = record { comes = tt; fault = refl; absent = refl }

  pub stays_ended : (d : Result A Halted) (more : A → Result B Halted) (why : FlattenRefusal) → Stays view (Err why) d
      → Stays see (Err why) (next d more)
  stays_ended (Ok a) more (Refused r) is = absurd is.comes
  stays_ended (Err (Refuses s)) more (Refused r) is = record { comes = is.comes; fault = refl; absent = is.absent }
  stays_ended (Err Silent) more (Refused r) is = record { comes = tt; fault = refl; absent = is.absent }
  stays_ended d more LoaderFault is = absurd (not_both is.fault)
    where
      not_both : true ≡ false → ⊥
      not_both e = cc
  stays_ended d more NoMemory is = record { comes = tt; fault = refl; absent = refl }

-- nothing is said where memory was wanted
pub stays_hungry : {A V : Type 0} (view : V → A) (d : Result A Halted) → Stays view (Err NoMemory) d
stays_hungry view d = record { comes = tt; fault = refl; absent = refl }

-- a refusal at a reference whose code is not that of a module that nobody has
pub stays_refused : {A V : Type 0} (view : V → A) (r : Refusal) (why : FlattenRefusal) → is_e06 r.code ≡ false → Is r why
    → Stays view (Err why) (Err (Refuses r))
stays_refused view r (Refused s) code is =
    record { comes = sym is; fault = refl; absent = subst (λ z. is_e06 z.code ≡ false) (sym is) code }
stays_refused view r LoaderFault code is = absurd is
stays_refused view r NoMemory code is = record { comes = tt; fault = refl; absent = refl }

-- ---- walks

-- a call that asks no loader is a walk
pub stays_walks : {A V : Type 0} (view : V → A) (result : Result V FlattenRefusal) (d : Result A Halted) (s : Stock)
    → is_silent d ≡ false → Stays view result d → Walks (λ _. d) s s view result
stays_walks view result d s heard is = walks_still d s view result heard is.comes is.fault is.absent

-- two definitions that say the same
pub walks_same : {A V : Type 0} (d e : Library → Result A Halted) (s t : Stock) (view : V → A)
    (result : Result V FlattenRefusal) → ((library : Library) → e library ≡ d library) → Walks d s t view result
    → Walks e s t view result
walks_same d e s t view result same is = record {
  comes = λ library sound. rw (same library) (is.comes library sound);
  answered = λ said can of.
      let one = is.answered said can of in record {
        said = one.said;
        is_answer = one.is_answer;
        extends = one.extends;
        stops = stops_under d e t.texts one.said view result (λ more far. same more) one.stops;
      };
  moved = is.moved;
  fault = is.fault;
  absent = is.absent;
  alone = λ silent. is.alone (rw (same _) at silent);
}

-- ---- where a module is

module _ (walk : Walk) (r : Reference) (s : Stock) (view : Opening → Begun)
    (result : Result Opening FlattenRefusal) where
  pub begins_found : (spot : Spot) → Finds walk.texts (Some spot) (find 0 walk.texts r.name.bytes)
      → ((found : Found) → Stands walk.texts spot found → Stays view result (begun_text r (walk, found)))
      → Walks (λ library. next (located library walk r) (begun_text r)) s s view result
  unfolding located
  begins_found spot is stays = go (find 0 walk.texts r.name.bytes) is
    where
      go : (x : Option Found) → Finds walk.texts (Some spot) x
          → Walks (λ library. next (located_or library walk r x) (begun_text r)) s s view result
      go None is = absurd is
      go (Some found) is = stays_walks view result (begun_text r (walk, found)) s (heard_begun_text r (walk, found))
          (stays found is)

  pub begins_loaded : (t : Stock) → Finds walk.texts None (find 0 walk.texts r.name.bytes) → is_name r.name.bytes ≡ true
      → Walks (λ library. next (fetched walk r (library r.name.bytes)) (begun_text r)) s t view result
      → Walks (λ library. next (located library walk r) (begun_text r)) s t view result
  unfolding located
  begins_loaded t is named walks = go (find 0 walk.texts r.name.bytes) is
    where
      go : (x : Option Found) → Finds walk.texts None x
          → Walks (λ library. next (located_or library walk r x) (begun_text r)) s t view result
      go None is = rw named walks
      go (Some found) is = absurd is

  pub begins_built : (standard : Standard) → standard_of r.name.bytes ≡ Some standard
      → Stays view result (begun_standard walk r standard) → Walks (λ library. begun library walk r) s s view result
  unfolding begun
  begins_built standard is stays =
      rw is (stays_walks view result (begun_standard walk r standard) s (heard_standard walk r standard) stays)

  pub begins_text : (t : Stock) → standard_of r.name.bytes ≡ None
      → Walks (λ library. next (located library walk r) (begun_text r)) s t view result
      → Walks (λ library. begun library walk r) s t view result
  unfolding begun
  begins_text t is walks = rw is walks

pub begins_nameless : (walk : Walk) (r : Reference) (s : Stock) (view : Opening → Begun) (why : FlattenRefusal)
    → Finds walk.texts None (find 0 walk.texts r.name.bytes) → is_name r.name.bytes ≡ false → Is (refusal_at E05 r) why
    → Walks (λ library. next (located library walk r) (begun_text r)) s s view (Err why)
unfolding located
begins_nameless walk r s view why is unnamed refusal = go (find 0 walk.texts r.name.bytes) is
  where
    go : (x : Option Found) → Finds walk.texts None x
        → Walks (λ library. next (located_or library walk r x) (begun_text r)) s s view (Err why)
    go None is = rw unnamed (stays_walks view (Err why) (Err (Refuses (refusal_at E05 r))) s refl
        (stays_refused view (refusal_at E05 r) why refl refusal))
    go (Some found) is = absurd is

-- a name that was looked for in vain
pub not_found : (texts : List LoadedText) (name : List ℕ) → Finds texts None (find 0 texts name)
    → find 0 texts name ≡ None
not_found texts name is = go (find 0 texts name) is
  where
    go : (x : Option Found) → Finds texts None x → x ≡ None
    go None is = refl
    go (Some found) is = absurd is
