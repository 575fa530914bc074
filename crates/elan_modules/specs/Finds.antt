-- What looking for a module ensures.
use Rattle.std.specs.Prelude.{◌≡◌, ℕ, List, slice_get, Option, Some, None}
use Rattle.elan_syntax.specs.declared.parts.ModuleOutline.{ModuleOutline}
use Rattle.elan_modules.specs.declared.flat.LoadedText.{LoadedText}
use Rattle.elan_modules.specs.declared.walk.Spot.{Spot}
use Rattle.elan_modules.specs.Modules.{Found}

-- the number is that of the module in the list
abbrev pub FindsIn : List ModuleOutline → Option ℕ → Option (ℕ × ModuleOutline) → Type 0
FindsIn outlines None None = Unit {0}
FindsIn outlines None (Some at) = ⊥
FindsIn outlines (Some j) None = ⊥
FindsIn outlines (Some j) (Some at) = (j ≡ at.0) × (slice_get outlines j ≡ Some at.1)

-- the module stands at this spot
pub record Stands (texts : List LoadedText) (spot : Spot) (found : Found) : Type 0 where
  pub text_number : spot.text ≡ found.text_number
  pub module_number : spot.«module» ≡ found.module_number
  pub text : slice_get texts spot.text ≡ Some found.text
  pub outline : slice_get found.text.modules spot.«module» ≡ Some found.outline

-- the spot is that of the module
abbrev pub Finds : List LoadedText → Option Spot → Option Found → Type 0
Finds texts None None = Unit {0}
Finds texts None (Some found) = ⊥
Finds texts (Some spot) None = ⊥
Finds texts (Some spot) (Some found) = Stands texts spot found
