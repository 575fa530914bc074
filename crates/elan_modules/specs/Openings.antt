-- What opening a loaded text ensures.
use Rattle.std.specs.Prelude.{◌≡◌, [], ◌∷◌, Result, Ok, Err}
use Rattle.elan_text.specs.declared.name.Name.{Name}
use Rattle.elan_text.specs.declared.refusal.Stop.{Stop}
use Rattle.elan_text.specs.declared.refusal.Stop.TheVariants as stop
use Rattle.elan_modules.specs.declared.flat.LoadedText.{LoadedText}
use Rattle.elan_modules.specs.declared.flat.FlattenRefusal.{FlattenRefusal}
use Rattle.elan_modules.specs.declared.flat.FlattenRefusal.TheVariants.{Refused, LoaderFault, NoMemory}
use Rattle.elan_modules.specs.Modules.{Opened, refusal_in}

-- what stops the reading of a text is refused in the text of a module
abbrev pub InText : Name → Stop → FlattenRefusal → Type 0
InText name (stop.Refused r) (Refused s) = s ≡ refusal_in name r.code r.at
InText name (stop.Refused r) LoaderFault = ⊥
InText name (stop.Refused r) NoMemory = Unit {0}
InText name stop.NoMemory why = why ≡ NoMemory

-- the text is the one that is read, and its outline its only module; or the refusal is the one that is met
abbrev pub Opens : Opened → Result LoadedText FlattenRefusal → Type 0
Opens (Ok read) (Ok text) = (read.0 ≡ text) × (text.modules ≡ read.1 ∷ [])
Opens (Ok read) (Err (Refused r)) = ⊥
Opens (Ok read) (Err LoaderFault) = ⊥
Opens (Ok read) (Err NoMemory) = Unit {0}
Opens (Err r) (Ok text) = ⊥
Opens (Err r) (Err (Refused s)) = r ≡ s
Opens (Err r) (Err LoaderFault) = ⊥
Opens (Err r) (Err NoMemory) = Unit {0}
