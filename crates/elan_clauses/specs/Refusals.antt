-- Refusals in a text, and names in it.
use Rattle.std.specs.Prelude.{ℕ, Result}
use Rattle.elan_text.specs.declared.name.Name.{Name}
use Rattle.elan_text.specs.declared.refusal.Code.{Code}
use Rattle.elan_text.specs.declared.refusal.Refusal.{Refusal}
use Rattle.elan_modules.specs.declared.flat.LoadedText.{LoadedText}
use Rattle.elan_modules.specs.Sorts.{word_at, place_at}

-- a value, or what is refused and where
abbrev pub Checked : Type 0 → Type 0
Checked A = Result A Refusal

-- a code at the token of a number
abbrev pub refusal_at : LoadedText → ℕ → Code → Refusal
refusal_at text number code = record { code = code; at = place_at text number; «module» = text.«module» }

-- the name that the token of a number is
abbrev pub name_at : LoadedText → ℕ → Name
name_at text number = record { bytes = word_at text number }
