-- What stands in a flat program: texts with their own tokens, and instances with modules that are there.
use Rattle.std.specs.Prelude.{◌≡◌, ℕ, List, Option, None, Some, slice_get}
use Rattle.std.specs.Option.{option_map}
use Rattle.std.specs.List.{All}
use Rattle.elan_lexer.specs.Text.{Fits, IsInside}
use Rattle.elan_syntax.specs.declared.parts.ModuleOutline.{ModuleOutline}
use Rattle.elan_modules.specs.declared.flat.LoadedText.{LoadedText}
use Rattle.elan_modules.specs.declared.flat.Origin.{Origin}
use Rattle.elan_modules.specs.declared.flat.Origin.TheVariants.{Builtin, Text}
use Rattle.elan_modules.specs.declared.flat.Instance.{Instance}
use Rattle.elan_modules.specs.declared.flat.Flat.{Flat}
use Rattle.elan_modules.specs.Modules.{name_of, standard_of}

-- the tokens are those of the bytes, and each of them lies inside
pub record IsFitting (text : LoadedText) : Type 0 where
  pub tokens : Fits text.bytes text.tokens
  pub inside : All (IsInside text.bytes) text.tokens

-- a module of this name stands at these numbers
pub record IsModuleAt (texts : List LoadedText) (name : List ℕ) (text_number module_number : ℕ) : Type 0 where
  pub text : LoadedText
  pub outline : ModuleOutline
  pub text_is : slice_get texts text_number ≡ Some text
  pub outline_is : slice_get text.modules module_number ≡ Some outline
  pub name_is : name_of text outline ≡ name

-- an origin is that of a module of this name: the one that is built in, or one that stands in a text
abbrev pub IsOriginOf : List LoadedText → List ℕ → Origin → Type 0
IsOriginOf texts name (Builtin built_in) = standard_of name ≡ Some built_in
IsOriginOf texts name (Text text_number module_number) = IsModuleAt texts name text_number module_number

-- the module of an instance is where its origin says
abbrev pub HasOrigin : List LoadedText → Instance → Type 0
HasOrigin texts i = IsOriginOf texts i.name.bytes i.origin

-- each text has its own tokens, and each instance its module
pub record IsFlat (flat : Flat) : Type 0 where
  pub texts : All IsFitting flat.texts
  pub origins : All (HasOrigin flat.texts) flat.instances

-- ---- the module of an instance

-- the module of this number with its text, where there are both
abbrev pub outline_at : Option LoadedText → ℕ → Option (LoadedText × ModuleOutline)
outline_at None module_number = None
outline_at (Some text) module_number = option_map (λ outline. (text, outline)) (slice_get text.modules module_number)

-- the module of an origin with its text; one that is built in has none
abbrev pub module_at : List LoadedText → Origin → Option (LoadedText × ModuleOutline)
module_at texts (Builtin built_in) = None
module_at texts (Text text_number module_number) = outline_at (slice_get texts text_number) module_number

-- the module of an instance with its text
abbrev pub module_of : Flat → Instance → Option (LoadedText × ModuleOutline)
module_of flat i = module_at flat.texts i.origin
