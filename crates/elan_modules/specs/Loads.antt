-- What loading a text ensures.
use Rattle.std.specs.Prelude.{◌≡◌, List, [], ◌∷◌, ◌++◌, length, Result, Ok, Err}
use Rattle.elan_text.specs.declared.name.Name.{Name}
use Rattle.elan_syntax.specs.declared.parts.ModuleOutline.{ModuleOutline}
use Rattle.elan_modules.specs.declared.flat.LoadedText.{LoadedText}
use Rattle.elan_modules.specs.declared.flat.Flat.{Flat}
use Rattle.elan_modules.specs.declared.flat.FlattenRefusal.{FlattenRefusal}
use Rattle.elan_modules.specs.Walking.{Walk}
use Rattle.elan_modules.specs.declared.walk.Opening.{Opening}
use Rattle.elan_modules.specs.Modules.{Found, name_of}
use Rattle.elan_modules.specs.Fitting.{IsFitting}
use Rattle.elan_modules.specs.Visits.{Begun}

-- the only module of a text that was loaded
abbrev pub only_outline : List ModuleOutline → ModuleOutline
only_outline [] = record { name = 0; parameters = []; sections = [] }
only_outline (m ∷ ms) = m

-- a text that was loaded has one module
abbrev pub HasOne : List ModuleOutline → Type 0
HasOne outlines = outlines ≡ only_outline outlines ∷ []

-- a text that was loaded for a name has its own tokens, and its module has the name
pub record IsOwn (name : Name) (text : LoadedText) : Type 0 where
  pub fitting : IsFitting text
  pub named : name_of text (only_outline text.modules) ≡ name.bytes

-- the walk with a text that was loaded, and its module
abbrev pub walk_with : Walk → LoadedText → Walk × Found
walk_with walk text = (
  record { texts = walk.texts ++ text ∷ []; done = walk.done },
  record { text_number = length walk.texts; module_number = 0; text = text; outline = only_outline text.modules },
)

-- the texts of a walk and the one that was loaded
abbrev pub texts_with : List LoadedText → Result LoadedText FlattenRefusal → List LoadedText
texts_with texts (Ok text) = texts ++ text ∷ []
texts_with texts (Err why) = texts

-- the texts of the walk that a call gives
abbrev pub texts_of : Result Walk FlattenRefusal → List LoadedText
texts_of (Ok walk) = walk.texts
texts_of (Err why) = []

-- the texts of the program that a call gives
abbrev pub texts_in : Result Flat FlattenRefusal → List LoadedText
texts_in (Ok flat) = flat.texts
texts_in (Err why) = []

-- the instance that is begun in a walk
abbrev pub begun_with : Walk → Opening → Begun
begun_with walk o = record { walk = walk; origin = o.origin; imports = o.imports }

-- a value as it is
abbrev pub itself : {A : Type 0} → A → A
itself a = a

-- a call without a value leaves the walk so
abbrev pub become : Walk → Unit {0} → Walk
become walk v = walk
