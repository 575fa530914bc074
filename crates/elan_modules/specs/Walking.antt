-- How far a walk through the imports came, and the bytes by which a finished instance is found again.
use Rattle.std.specs.Prelude.{◌≡◌, ℕ, Bool, List, [], ◌∷◌, ◌++◌, drop, Some, slice_get}
use Rattle.std.specs.List.{All, list_any}
use Rattle.std.specs.Str.{bytes_eq}
use Rattle.elan_text.specs.declared.name.Name.{Name}
use Rattle.elan_numbers.specs.Numbering.{is_called}
use Rattle.elan_modules.specs.declared.flat.LoadedText.{LoadedText}
use Rattle.elan_modules.specs.declared.flat.Instance.{Instance}
use Rattle.elan_modules.specs.Fitting.{IsFitting, HasOrigin}

-- the stream with the texts that were loaded, and the instances that were finished, each in their order
pub record Walk : Type 0 where
  pub texts : List LoadedText
  pub done : List Instance

-- the walk with one text more
abbrev pub with_text : Walk → LoadedText → Walk
with_text walk text = record { texts = walk.texts ++ text ∷ []; done = walk.done }

-- the bytes of a name, which tell where it ends: a 1 before each of them, and a 0 behind the last one
abbrev pub marked : List ℕ → List ℕ
marked [] = 0 ∷ []
marked (b ∷ bs) = 1 ∷ b ∷ marked bs

-- names one after the other
abbrev pub marked_all : List Name → List ℕ
marked_all [] = []
marked_all (name ∷ names) = marked name.bytes ++ marked_all names

-- the bytes of a module's name and of its arguments; no two instances have the same
abbrev pub key_of : Name → List Name → List ℕ
key_of name args = marked name.bytes ++ marked_all args

-- an instance has these bytes
abbrev pub has_key : List ℕ → Instance → Bool
has_key key i = bytes_eq key (key_of i.name i.args)

-- the instances are found by these keys
abbrev pub IsIndexed : List Name → List Instance → Type 0
IsIndexed keys done = (key : List ℕ) → list_any (is_called key) keys ≡ list_any (has_key key) done

-- the texts that were there stand at their numbers
abbrev pub Keeps : List LoadedText → List LoadedText → Type 0
Keeps before after =
    (number : ℕ) (text : LoadedText) → slice_get before number ≡ Some text → slice_get after number ≡ Some text

-- what holds of every walk: instances are found by their keys, the texts behind the first one have their own tokens, and
-- each instance has its module
pub record IsWalk (keys : List Name) (texts : List LoadedText) (done : List Instance) : Type 0 where
  pub indexed : IsIndexed keys done
  pub loaded : All IsFitting (drop 1 texts)
  pub origins : All (HasOrigin texts) done
