-- What a call that walks on ensures: it comes to what a definition says, and each answer has its cause.
use Rattle.std.specs.Prelude.{◌≡◌, ◌⊎◌, ℕ, Bool, true, false, List, map, Option, None, Result, Ok, Err}
use Rattle.elan_text.specs.declared.refusal.Code.TheVariants.{E06}
use Rattle.elan_text.specs.declared.refusal.Refusal.{Refusal}
use Rattle.elan_modules.specs.declared.flat.FlattenRefusal.{FlattenRefusal}
use Rattle.elan_modules.specs.declared.flat.FlattenRefusal.TheVariants.{Refused, LoaderFault, NoMemory}
use Rattle.elan_modules.specs.declared.walk.Reference.{Reference}
use Rattle.elan_loaders.specs.Libraries.{Library as Texts, Told, Has, HasNone, Untold, first_told, Shows, ShowsNone, NoneHas, EachRose, NoneFell, SomeRose}
use Rattle.elan_modules.specs.declared.flat.LoadedText.{LoadedText}
use Rattle.elan_modules.specs.Modules.{find}
use Rattle.elan_modules.specs.Visits.{Library, Halted, Refuses, Silent, is_e06, refusal_at}

-- what is known of a list of loaders: of each what it tells and its two counts
pub record Shelf : Type 0 where
  pub told : List (Option Texts)
  pub misses : List ℕ
  pub failures : List ℕ

-- the shelf of loaders
abbrev pub shelf : {L : Type 0} → (L → Option Texts) → (L → ℕ) → (L → ℕ) → List L → Shelf
shelf library misses failures loaders =
    record { told = map library loaders; misses = map misses loaders; failures = map failures loaders }

-- the shelf of loaders, and the stream with the texts that they gave so far
pub record Stock : Type 0 where
  pub loaders : Shelf
  pub texts : List LoadedText

-- the shelf of loaders with texts
abbrev pub stock : {L : Type 0} → (L → Option Texts) → (L → ℕ) → (L → ℕ) → List L → List LoadedText → Stock
stock library misses failures loaders texts =
    record { loaders = shelf library misses failures loaders; texts = texts }

-- what is told of each name is what the loaders tell, or nothing
abbrev pub IsSound : Library → List (Option Texts) → Type 0
IsSound library told = (name : List ℕ) → (library name ≡ Untold) ⊎ (library name ≡ first_told told name)

-- nothing is told of any name
abbrev pub nothing : Library
nothing name = Untold

-- A call comes to what a definition says, with its value seen so. Nothing is said where memory was wanted, where a
-- loader failed, or where the definition comes to a name of which nothing is told.
abbrev pub Comes : {A V : Type 0} → (V → A) → Result V FlattenRefusal → Result A Halted → Type 0
Comes view (Ok v) (Ok a) = a ≡ view v
Comes view (Ok v) (Err (Refuses r)) = ⊥
Comes view (Ok v) (Err Silent) = Unit {0}
Comes view (Err (Refused r)) (Ok a) = ⊥
Comes view (Err (Refused r)) (Err (Refuses s)) = s ≡ r
Comes view (Err (Refused r)) (Err Silent) = Unit {0}
Comes view (Err LoaderFault) d = Unit {0}
Comes view (Err NoMemory) d = Unit {0}

-- the loaders tell what they told, and no count fell
pub record Moved (before after : Shelf) : Type 0 where
  pub told : after.told ≡ before.told
  pub misses : NoneFell before.misses after.misses
  pub failures : NoneFell before.failures after.failures

-- no count changed
pub record Untouched (before after : Shelf) : Type 0 where
  pub misses : after.misses ≡ before.misses
  pub failures : after.failures ≡ before.failures

-- a loader failed
abbrev pub is_fault : {V : Type 0} → Result V FlattenRefusal → Bool
is_fault (Ok v) = false
is_fault (Err (Refused r)) = false
is_fault (Err LoaderFault) = true
is_fault (Err NoMemory) = false

-- a module is refused that nobody has
abbrev pub is_absent : {V : Type 0} → Result V FlattenRefusal → Bool
is_absent (Ok v) = false
is_absent (Err (Refused r)) = is_e06 r.code
is_absent (Err LoaderFault) = false
is_absent (Err NoMemory) = false

-- the refusal stands at a reference whose name no library that is told has
abbrev pub Lacks : {V : Type 0} → List (Option Texts) → Result V FlattenRefusal → Type 0
Lacks told (Ok v) = ⊥
Lacks told (Err (Refused r)) =
    (reference : Reference) × (r ≡ refusal_at E06 reference) × NoneHas told reference.name.bytes
Lacks told (Err LoaderFault) = ⊥
Lacks told (Err NoMemory) = ⊥

-- ---- what the loaders answered

-- This can have been answered of a name: a text, which is the one that the loaders tell where they tell one; or that
-- there is none, where no loader that tells has one. Of other names nothing was answered.
abbrev pub CanAnswer : List (Option Texts) → List ℕ → Told → Type 0
CanAnswer told name (Has text) = Shows (first_told told name) text
CanAnswer told name HasNone = ShowsNone (first_told told name) × NoneHas told name
CanAnswer told name Untold = Unit {0}

-- a library says what the loaders can have answered
abbrev pub IsAnswer : List (Option Texts) → Library → Type 0
IsAnswer told said = (name : List ℕ) → CanAnswer told name (said name)

-- what one library says, the other one says too
abbrev pub Extends : Library → Library → Type 0
Extends said more = (name : List ℕ) → (said name ≡ Untold) ⊎ (more name ≡ said name)

-- a library says something only of names of which these texts have a module
abbrev pub IsOf : List LoadedText → Library → Type 0
IsOf texts said = (name : List ℕ) → find 0 texts name ≡ None → said name ≡ Untold

-- A call comes to just what a definition says with what was answered, whatever is said of further names. Where a loader
-- failed, the definition comes to a name of which nothing was answered.
abbrev pub Stops : {A V : Type 0} → (V → A) → (Library → Result A Halted) → List LoadedText → Library
    → Result V FlattenRefusal → Type 0
Stops view definition texts said (Ok v) =
    ((more : Library) → Extends said more → definition more ≡ Ok (view v)) × IsOf texts said
Stops view definition texts said (Err (Refused r)) =
    (more : Library) → Extends said more → definition more ≡ Err (Refuses r)
Stops view definition texts said (Err LoaderFault) = definition said ≡ Err Silent
Stops view definition texts said (Err NoMemory) = Unit {0}

-- what was answered in the end, behind what was answered before
pub record Answered {A V : Type 0} (definition : Library → Result A Halted) (told : List (Option Texts))
    (before : Library) (texts : List LoadedText) (view : V → A) (result : Result V FlattenRefusal) : Type 0 where
  pub said : Library
  pub is_answer : IsAnswer told said
  pub extends : Extends before said
  pub stops : Stops view definition texts said result

-- a definition comes to a name of which nothing is told
abbrev pub is_silent : {A : Type 0} → Result A Halted → Bool
is_silent (Ok a) = false
is_silent (Err (Refuses r)) = false
is_silent (Err Silent) = true

-- A call that walks on, from the loaders and the texts before it to those after it.
pub record Walks {A V : Type 0} (definition : Library → Result A Halted) (before after : Stock) (view : V → A)
    (result : Result V FlattenRefusal) : Type 0 where
  -- it comes to what the definition says for every library that is sound
  pub comes : (library : Library) → IsSound library before.loaders.told → Comes view result (definition library)
  -- it comes to just what the definition says for what the loaders answered
  pub answered : (said : Library) → IsAnswer before.loaders.told said → IsOf before.texts said
      → Answered definition before.loaders.told said after.texts view result
  pub moved : Moved before.loaders after.loaders
  -- a loader fails only where a count of faults rose
  pub fault : is_fault result ≡ true → SomeRose before.loaders.failures after.loaders.failures
  -- a module that nobody has is refused only where each count of absences rose and no library that is told has it
  pub absent : is_absent result ≡ true
      → EachRose before.loaders.misses after.loaders.misses × Lacks before.loaders.told result
  -- where the definition asks for nothing, no loader is asked
  pub alone : is_silent (definition nothing) ≡ false
      → Untouched before.loaders after.loaders × (is_fault result ≡ false)

-- an error is this refusal, unless memory was wanted
abbrev pub Is : Refusal → FlattenRefusal → Type 0
Is r (Refused s) = s ≡ r
Is r LoaderFault = ⊥
Is r NoMemory = Unit {0}

-- a call that asks no loader comes to what a definition says, and answers neither that a loader failed nor that nobody
-- has a module
pub record Stays {A V : Type 0} (view : V → A) (result : Result V FlattenRefusal) (definition : Result A Halted) : Type 0
  where
    pub comes : Comes view result definition
    pub fault : is_fault result ≡ false
    pub absent : is_absent result ≡ false
