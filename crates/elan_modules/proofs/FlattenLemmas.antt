-- Which libraries a walk asks.
use Rattle.std.proofs.Common.{◌≡◌, ◌≢◌, ◌⊎◌, inl, inr, ℕ, zero, suc, ◌+◌, Bool, true, false, cond, nat_le, List, [], ◌∷◌, ◌++◌, length, Option, Some, None, Result, Ok, Err, refl, ap, ◌∙◌, subst}
use Rattle.std.specs.List.{list_any}
use Rattle.elan_text.specs.declared.refusal.Code.TheVariants.{E05, E06, E08, E14}
use Rattle.elan_text.specs.declared.name.Name.{Name}
use Rattle.elan_text.specs.declared.refusal.Place.{Place}
use Rattle.elan_lexer.specs.declared.token.Token.{Token}
use Rattle.elan_syntax.specs.declared.parts.Outline.{Outline}
use Rattle.elan_modules.specs.declared.flat.LoadedText.{LoadedText}
use Rattle.elan_modules.specs.declared.flat.Flat.{Flat}
use Rattle.elan_modules.specs.declared.flat.FlattenRefusal.{FlattenRefusal}
use Rattle.elan_modules.specs.declared.flat.FlattenRefusal.TheVariants.{Refused, LoaderFault, NoMemory}
use Rattle.elan_modules.specs.Walking.{Walk}
use Rattle.elan_modules.specs.declared.walk.Reference.{Reference}
use Rattle.elan_modules.specs.declared.flat.Standard.{Standard}
use Rattle.elan_loaders.specs.Libraries.{Library as Texts, Told, Has, HasNone, Untold, found_or, first_told}
use Rattle.elan_modules.specs.Modules.{Found, find, is_name, standard_of, references_of}
use Rattle.elan_modules.specs.Visits.{Library, Halted, Refuses, Silent, Visiting, next, fetched, located_or, located, begun_text, begun_or, begun, completed, finished, is_named_by, is_instance, most_instances, refused_at, visit_all, visit_step, visit, named_once, named_twice, start, walked, stream_of, flat_program, flat_of, is_unknown, nobody, needs_loaders}
use Rattle.elan_modules.specs.Walks.{Stock, nothing, IsAnswer, Stops, Comes, Untouched, is_fault, is_silent, Walks}
use Rattle.elan_modules.specs.Loads.{itself}
use Rattle.elan_modules.specs.Flattens.{AllTold, Gives, StopsAt}
use Rattle.elan_modules.proofs.AnswerLemmas.{extends_same}
use Rattle.elan_modules.proofs.HeardLemmas.{Heard, heard_next, heard_cond, heard_loaded, heard_begun_text, heard_standard}
use Rattle.elan_modules.proofs.WalkLemmas.{nothing_sound}

-- ---- a walk that never comes to a name of which nothing is told

module _ (library : Library) (tells : (name : List ℕ) → library name ≢ Untold) where
  heard_fetched : (walk : Walk) (r : Reference) (told : Told) → told ≢ Untold → Heard (fetched walk r told)
  heard_fetched walk r (Has bytes) some = heard_loaded walk r.name bytes
  heard_fetched walk r HasNone some = refl
  heard_fetched walk r Untold some = absurd (some refl)

  heard_located : (walk : Walk) (r : Reference) → Heard (located library walk r)
  unfolding located
  heard_located walk r = go (find 0 walk.texts r.name.bytes)
    where
      go : (found : Option Found) → Heard (located_or library walk r found)
      go (Some found) = refl
      go None = heard_cond (is_name r.name.bytes) (fetched walk r (library r.name.bytes)) (refused_at E05 r) (heard_fetched walk r (library r.name.bytes) (tells r.name.bytes)) refl

  heard_begun : (walk : Walk) (r : Reference) → Heard (begun library walk r)
  unfolding begun
  heard_begun walk r = go (standard_of r.name.bytes)
    where
      go : (standard : Option Standard) → Heard (begun_or library walk r standard)
      go (Some standard) = heard_standard walk r standard
      go None = heard_next (located library walk r) (begun_text r) (heard_located walk r) (heard_begun_text r)

  heard_all : (visiting : Visiting) → ((path : List Name) (walk : Walk) (r : Reference) → Heard (visiting path walk r))
      → (path : List Name) (walk : Walk) (rs : List Reference) → Heard (visit_all visiting path walk rs)
  unfolding visit_all
  heard_all visiting each path walk [] = refl
  heard_all visiting each path walk (r ∷ rs) = heard_next (visiting path walk r) _ (each path walk r)
      (λ further. heard_all visiting each path further rs)

  heard_step : (visiting : Visiting) → ((path : List Name) (walk : Walk) (r : Reference) → Heard (visiting path walk r))
      → (path : List Name) (walk : Walk) (r : Reference) → Heard (visit_step visiting library path walk r)
  unfolding visit_step
  heard_step visiting each path walk r = heard_cond (list_any (is_named_by r) path) (refused_at E08 r) (cond (list_any (is_instance r) walk.done) (Ok walk) (cond (nat_le most_instances (length path + length walk.done)) (refused_at E14 r) (next (begun library walk r) (completed visiting path r)))) refl
      (heard_cond (list_any (is_instance r) walk.done) (Ok walk) (cond (nat_le most_instances (length path + length walk.done)) (refused_at E14 r) (next (begun library walk r) (completed visiting path r))) refl
      (heard_cond (nat_le most_instances (length path + length walk.done)) (refused_at E14 r) (next (begun library walk r) (completed visiting path r)) refl
      (heard_next (begun library walk r) (completed visiting path r) (heard_begun walk r)
      (λ b. heard_next (visit_all visiting (path ++ r.name ∷ []) b.walk b.imports) _
      (heard_all visiting each (path ++ r.name ∷ []) b.walk b.imports) (λ further. refl)))))

  heard_visit : (n : ℕ) (path : List Name) (walk : Walk) (r : Reference) → Heard (visit n library path walk r)
  unfolding visit
  heard_visit zero = heard_step (λ path walk r. refused_at E14 r) (λ path walk r. refl)
  heard_visit (suc n) = heard_step (visit n library) (heard_visit n)

  pub heard_program : (bytes : List ℕ) (tokens : List Token) (outline : Outline) → Heard (flat_program library bytes tokens outline)
  unfolding walked
  heard_program bytes tokens outline = heard_next (walked library (stream_of bytes tokens outline) outline.lpl) _
      (go (named_twice (stream_of bytes tokens outline) [] outline.modules)) (λ walk. refl)
    where
      go : (at : Option Place) → Heard (named_once at (visit_all (visit most_instances library) []
          (start (stream_of bytes tokens outline)) (references_of (stream_of bytes tokens outline) [] [] outline.lpl.imports)))
      go (Some at) = refl
      go None = heard_all (visit most_instances library) (heard_visit most_instances) [] _ _

-- ---- no library, and nothing told

-- two walks are the same, or the first comes to a name of which nothing is told where the second comes to a module that nobody has
abbrev Alike : {A : Type 0} → Result A Halted → Result A Halted → Type 0
Alike x y = (x ≡ y) ⊎ ((is_silent x ≡ true) × (is_unknown y ≡ true))

alike_next : {A B : Type 0} (x y : Result A Halted) (f g : A → Result B Halted) → Alike x y → ((a : A) → Alike (f a) (g a))
    → Alike (next x f) (next y g)
alike_next x y f g (inl same) each = subst (λ z. Alike (next x f) (next z g)) same (go x)
  where
    go : (x : Result _ Halted) → Alike (next x f) (next x g)
    go (Ok a) = each a
    go (Err halted) = inl refl
alike_next (Ok a) y f g (inr two) each = absurd (no two.0)
  where
    no : false ≡ true → ⊥
    no e = cc
alike_next (Err (Refuses r)) y f g (inr two) each = absurd (no two.0)
  where
    no : false ≡ true → ⊥
    no e = cc
alike_next (Err Silent) (Ok b) f g (inr two) each = absurd (no two.1)
  where
    no : false ≡ true → ⊥
    no e = cc
alike_next (Err Silent) (Err Silent) f g (inr two) each = absurd (no two.1)
  where
    no : false ≡ true → ⊥
    no e = cc
alike_next (Err Silent) (Err (Refuses r)) f g (inr two) each = inr (refl, two.1)

alike_cond : {A : Type 0} (b : Bool) (x y v w : Result A Halted) → Alike x y → Alike v w → Alike (cond b x v) (cond b y w)
alike_cond true x y v w here there = here
alike_cond false x y v w here there = there

alike_located : (walk : Walk) (r : Reference) → Alike (located nothing walk r) (located nobody walk r)
unfolding located
alike_located walk r = go (find 0 walk.texts r.name.bytes)
  where
    go : (found : Option Found) → Alike (located_or nothing walk r found) (located_or nobody walk r found)
    go (Some found) = inl refl
    go None = alike_cond (is_name r.name.bytes) (Err Silent) (refused_at E06 r) (refused_at E05 r) (refused_at E05 r)
        (inr (refl, refl)) (inl refl)

alike_begun : (walk : Walk) (r : Reference) → Alike (begun nothing walk r) (begun nobody walk r)
unfolding begun
alike_begun walk r = go (standard_of r.name.bytes)
  where
    go : (standard : Option Standard) → Alike (begun_or nothing walk r standard) (begun_or nobody walk r standard)
    go (Some standard) = inl refl
    go None = alike_next (located nothing walk r) (located nobody walk r) (begun_text r) (begun_text r) (alike_located walk r)
        (λ at. inl refl)

alike_all : (one two : Visiting) → ((path : List Name) (walk : Walk) (r : Reference) → Alike (one path walk r) (two path walk r))
    → (path : List Name) (walk : Walk) (rs : List Reference) → Alike (visit_all one path walk rs) (visit_all two path walk rs)
unfolding visit_all
alike_all one two each path walk [] = inl refl
alike_all one two each path walk (r ∷ rs) = alike_next (one path walk r) (two path walk r)
    (λ further. visit_all one path further rs) (λ further. visit_all two path further rs) (each path walk r)
    (λ further. alike_all one two each path further rs)

alike_step : (one two : Visiting) → ((path : List Name) (walk : Walk) (r : Reference) → Alike (one path walk r) (two path walk r))
    → (path : List Name) (walk : Walk) (r : Reference) → Alike (visit_step one nothing path walk r) (visit_step two nobody path walk r)
unfolding visit_step
alike_step one two each path walk r = alike_cond (list_any (is_named_by r) path) (refused_at E08 r) (refused_at E08 r) _ _ (inl refl)
    (alike_cond (list_any (is_instance r) walk.done) (Ok walk) (Ok walk) _ _ (inl refl)
    (alike_cond (nat_le most_instances (length path + length walk.done)) (refused_at E14 r) (refused_at E14 r) _ _ (inl refl)
    (alike_next (begun nothing walk r) (begun nobody walk r) (completed one path r) (completed two path r) (alike_begun walk r)
    (λ b. alike_next (visit_all one (path ++ r.name ∷ []) b.walk b.imports) (visit_all two (path ++ r.name ∷ []) b.walk b.imports)
    (λ further. Ok (finished r b.origin further)) (λ further. Ok (finished r b.origin further))
    (alike_all one two each (path ++ r.name ∷ []) b.walk b.imports) (λ further. inl refl)))))

alike_visit : (n : ℕ) (path : List Name) (walk : Walk) (r : Reference) → Alike (visit n nothing path walk r) (visit n nobody path walk r)
unfolding visit
alike_visit zero = alike_step (λ path walk r. refused_at E14 r) (λ path walk r. refused_at E14 r) (λ path walk r. inl refl)
alike_visit (suc n) = alike_step (visit n nothing) (visit n nobody) (alike_visit n)

alike_program : (bytes : List ℕ) (tokens : List Token) (outline : Outline)
    → Alike (flat_program nothing bytes tokens outline) (flat_program nobody bytes tokens outline)
unfolding walked
alike_program bytes tokens outline = alike_next (walked nothing (stream_of bytes tokens outline) outline.lpl)
    (walked nobody (stream_of bytes tokens outline) outline.lpl) (λ walk. Ok (flat_of outline.lpl outline.query walk))
    (λ walk. Ok (flat_of outline.lpl outline.query walk)) (go (named_twice (stream_of bytes tokens outline) [] outline.modules))
    (λ walk. inl refl)
  where
    first : Walk
    first = start (stream_of bytes tokens outline)

    asked : List Reference
    asked = references_of (stream_of bytes tokens outline) [] [] outline.lpl.imports

    go : (at : Option Place) → Alike (named_once at (visit_all (visit most_instances nothing) [] first asked))
        (named_once at (visit_all (visit most_instances nobody) [] first asked))
    go (Some at) = inl refl
    go None = alike_all (visit most_instances nothing) (visit most_instances nobody) (alike_visit most_instances) [] first asked

-- ---- what follows for the whole call

stops_at : (d : Library → Result Flat Halted) (texts : List LoadedText) (said : Library)
    (result : Result Flat FlattenRefusal)
    → Stops itself d texts said result → StopsAt result (d said)
stops_at d texts said (Ok flat) is = is.0 said (extends_same said)
stops_at d texts said (Err (Refused r)) is = is said (extends_same said)
stops_at d texts said (Err LoaderFault) is = is
stops_at d texts said (Err NoMemory) is = tt

tells_found : (x : Option (List ℕ)) (others : Told) → others ≢ Untold → found_or x others ≢ Untold
tells_found (Some text) others tells e = absurd cc
tells_found None others tells e = tells e

tells_each : (told : List (Option Texts)) → AllTold told → (name : List ℕ) → first_told told name ≢ Untold
tells_each [] all name e = absurd cc
tells_each (None ∷ others) all name e = absurd all
tells_each (Some library ∷ others) all name e =
    tells_found (library name) (first_told others name) (tells_each others all name) e

gives_heard : (result : Result Flat FlattenRefusal) (d : Result Flat Halted) → Heard d → Comes itself result d → Gives result d
gives_heard (Ok flat) (Ok other) heard is = ap (λ z. Ok z) is
gives_heard (Ok flat) (Err (Refuses r)) heard is = absurd is
gives_heard (Ok flat) (Err Silent) heard is = absurd cc
gives_heard (Err (Refused r)) (Ok other) heard is = absurd is
gives_heard (Err (Refused r)) (Err (Refuses s)) heard is = ap (λ z. Err (Refuses z)) is
gives_heard (Err (Refused r)) (Err Silent) heard is = absurd cc
gives_heard (Err LoaderFault) d heard is = tt
gives_heard (Err NoMemory) d heard is = tt

module _ (bytes : List ℕ) (tokens : List Token) (outline : Outline) (s t : Stock) (result : Result Flat FlattenRefusal)
    (is : Walks (λ library. flat_program library bytes tokens outline) s t itself result) where
  -- for what the loaders answered
  pub stops_answered : (said : Library) × IsAnswer s.loaders.told said × StopsAt result
      (flat_program said bytes tokens outline)
  stops_answered =
      let one = is.answered nothing (λ name. tt) (λ name none. refl) in (
        one.said,
        one.is_answer,
        stops_at
            (λ library. flat_program library bytes tokens outline) t.texts one.said result one.stops,
      )

  -- where each loader tells its library
  pub gives_told : AllTold s.loaders.told → Gives result (flat_program (first_told s.loaders.told) bytes tokens outline)
  gives_told all = gives_heard result _
      (heard_program (first_told s.loaders.told) (tells_each s.loaders.told all) bytes tokens outline)
      (is.comes (first_told s.loaders.told) (λ name. inr refl))

  same_alone : needs_loaders bytes tokens outline ≡ false
      → flat_program nothing bytes tokens outline ≡ flat_program nobody bytes tokens outline
  same_alone none = go (alike_program bytes tokens outline)
    where
      not_both : (b : Bool) → b ≡ true → b ≡ false → ⊥
      not_both b t f = cc

      go : Alike (flat_program nothing bytes tokens outline) (flat_program nobody bytes tokens outline)
          → flat_program nothing bytes tokens outline ≡ flat_program nobody bytes tokens outline
      go (inl same) = same
      go (inr two) = absurd (not_both (needs_loaders bytes tokens outline) two.1 none)

  heard_nobody : Heard (flat_program nobody bytes tokens outline)
  heard_nobody = heard_program nobody (λ name e. absurd cc) bytes tokens outline

  heard_nothing : needs_loaders bytes tokens outline ≡ false → Heard (flat_program nothing bytes tokens outline)
  heard_nothing none = ap is_silent (same_alone none) ∙ heard_nobody

  -- where the stream needs no loaders
  pub gives_alone : needs_loaders bytes tokens outline ≡ false → Gives result (flat_program nobody bytes tokens outline)
  gives_alone none = gives_heard result _ heard_nobody
      (subst (λ d. Comes itself result d) (same_alone none) (is.comes nothing (nothing_sound s.loaders)))

  pub untouched_alone : needs_loaders bytes tokens outline ≡ false → Untouched s.loaders t.loaders
  untouched_alone none = (is.alone (heard_nothing none)).0

  -- a loader fails only where the stream needs loaders
  pub needed_at_fault : is_fault result ≡ true → needs_loaders bytes tokens outline ≡ true
  needed_at_fault fault = go (needs_loaders bytes tokens outline) refl
    where
      not_both : (b : Bool) → b ≡ true → b ≡ false → ⊥
      not_both b t f = cc

      go : (b : Bool) → needs_loaders bytes tokens outline ≡ b → needs_loaders bytes tokens outline ≡ true
      go true e = e
      go false e = absurd (not_both (is_fault result) fault (is.alone (heard_nothing e)).1)
