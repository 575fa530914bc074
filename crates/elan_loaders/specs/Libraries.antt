-- What one fetch of a loader does.
use Rattle.std.specs.Prelude.{◌≡◌, ℕ, ◌≤◌, ◌<◌, ◌+◌, ◌⊎◌, Option, Some, None, List, [], ◌∷◌, ◌++◌}
use Rattle.elan_text.specs.Streams.{Rose}
use Rattle.elan_loaders.specs.declared.loader.Fetched.{Fetched}
use Rattle.elan_loaders.specs.declared.loader.Fetched.TheVariants.{Found, Absent, Failed, NoMemory}

-- the texts by their names
abbrev pub Library : Type 0
Library = List ℕ → Option (List ℕ)

-- this is the text of the name, where the library is told
abbrev pub HasText : Option Library → List ℕ → List ℕ → Type 0
HasText None name text = Unit {0}
HasText (Some library) name text = library name ≡ Some text

-- there is no text of the name, where the library is told
abbrev pub HasNoText : Option Library → List ℕ → Type 0
HasNoText None name = Unit {0}
HasNoText (Some library) name = library name ≡ None

-- no library that is told has a text of the name
abbrev pub NoneHas : List (Option Library) → List ℕ → Type 0
NoneHas [] name = Unit {0}
NoneHas (told ∷ others) name = HasNoText told name × NoneHas others name

-- a fetch puts the text of the name at the end of the buffer, or leaves the buffer as it is; that there is none is answered only where the library has none
abbrev pub Answers : Option Library → List ℕ → Fetched → List ℕ → List ℕ → Type 0
Answers told name Found before after = (text : List ℕ) × (after ≡ before ++ text) × HasText told name text
Answers told name Absent before after = (after ≡ before) × HasNoText told name
Answers told name Failed before after = after ≡ before
Answers told name NoMemory before after = after ≡ before

-- what a list of loaders tells of a name: the text of the first one that has it, or that none has it, or nothing
pub data Told : Type 0 where
  Has : List ℕ → Told
  HasNone : Told
  Untold : Told

-- the text that was found, or else what the others tell
abbrev pub found_or : Option (List ℕ) → Told → Told
found_or (Some text) others = Has text
found_or None others = others

-- what the libraries tell of a name, in their order; where one tells nothing, no later one can be known to decide
abbrev pub first_told : List (Option Library) → List ℕ → Told
first_told [] name = HasNone
first_told (None ∷ others) name = Untold
first_told (Some library ∷ others) name = found_or (library name) (first_told others name)

-- the text that is put behind a buffer is the one that is told, where one is
abbrev pub Shows : Told → List ℕ → Type 0
Shows (Has text) found = found ≡ text
Shows HasNone found = ⊥
Shows Untold found = Unit {0}

-- no text is told
abbrev pub ShowsNone : Told → Type 0
ShowsNone (Has text) = ⊥
ShowsNone HasNone = Unit {0}
ShowsNone Untold = Unit {0}

-- what asking a list of loaders does, as for one loader
abbrev pub AnswersAll : Told → Fetched → List ℕ → List ℕ → Type 0
AnswersAll told Found before after = (text : List ℕ) × (after ≡ before ++ text) × Shows told text
AnswersAll told Absent before after = (after ≡ before) × ShowsNone told
AnswersAll told Failed before after = after ≡ before
AnswersAll told NoMemory before after = after ≡ before

-- each count rose
abbrev pub EachRose : List ℕ → List ℕ → Type 0
EachRose [] [] = Unit {0}
EachRose [] (n ∷ ns) = ⊥
EachRose (m ∷ ms) [] = ⊥
EachRose (m ∷ ms) (n ∷ ns) = Rose m n × EachRose ms ns

-- no count falls
abbrev pub NoneFell : List ℕ → List ℕ → Type 0
NoneFell [] [] = Unit {0}
NoneFell [] (n ∷ ns) = ⊥
NoneFell (m ∷ ms) [] = ⊥
NoneFell (m ∷ ms) (n ∷ ns) = (m ≤ n) × NoneFell ms ns

-- one of the counts stands at the end of its type
abbrev pub OneFull : List ℕ → Type 0
OneFull [] = ⊥
OneFull (n ∷ ns) = (n ≡ 18446744073709551615) ⊎ OneFull ns

-- the sum of counts
abbrev pub sum_of : List ℕ → ℕ
sum_of [] = 0
sum_of (n ∷ ns) = n + sum_of ns

-- some count rose: their sum is greater, or one stands at the end of its type
abbrev pub SomeRose : List ℕ → List ℕ → Type 0
SomeRose before after = (sum_of before < sum_of after) ⊎ OneFull after
