-- Which outline a list of tokens has, and at which token it has none.
use Rattle.std.specs.Prelude.{◌≡◌, ℕ, List, Option, Some, None, slice_get}
use Rattle.elan_text.specs.declared.name.Name.{Name}
use Rattle.elan_text.specs.declared.refusal.Code.{Code}
use Rattle.elan_text.specs.declared.refusal.Code.TheVariants.{E05, E14}
use Rattle.elan_text.specs.declared.refusal.Place.{Place}
use Rattle.elan_text.specs.declared.refusal.Stop.{Stop}
use Rattle.elan_text.specs.declared.refusal.Stop.TheVariants.{Refused, NoMemory}
use Rattle.elan_lexer.specs.declared.token.Token.{Token}
use Rattle.elan_lexer.specs.Places.{end_place}
use Rattle.elan_forms.specs.declared.why.Why.{Why}
use Rattle.elan_forms.specs.declared.why.Why.TheVariants.{Unexpected, TooMany}
use Rattle.elan_forms.specs.Whole.{Unmarked, StopsAt, ExceedsAt}
use Rattle.elan_phrases.specs.declared.halt.Halt.{Halt}
use Rattle.elan_phrases.specs.declared.halt.Halt.TheVariants.{Misfit, NoMemory as OutOfMemory}
use Rattle.elan_phrases.specs.Symbols.{Seen, seen}
use Rattle.elan_phrases.specs.Tokens.{Rule}
use Rattle.elan_syntax.specs.declared.parts.Outline.{Outline}
use Rattle.elan_syntax.specs.declared.parts.ModuleOutline.{ModuleOutline}
use Rattle.elan_syntax.specs.Grammar.{stream, module_text}

-- ---- for any rule of whole texts

-- the value is a derivation of the rule on these tokens, and no sort expression and no strategy in them is too long
pub record IsDerived {V : Type 0} (rule : Rule V) (tokens : List Seen) (value : V) : Type 0 where
  pub derived : rule.words 0 tokens value
  pub within : Unmarked (rule.marks 0) tokens

-- The refused token, by its number. The tokens before it begin some text of the rule, and nothing in them is too long.
-- Either no text begins with it as well, where the number of tokens stands for the end; or some text does, and the
-- token is the first one that is one too many for a sort expression or a strategy.
abbrev pub IsRefusedAt : {V : Type 0} → Rule V → List Seen → Why → ℕ → Type 0
IsRefusedAt rule tokens Unexpected at = StopsAt (rule.words 0) (rule.marks 0) tokens at
IsRefusedAt rule tokens TooMany at = ExceedsAt (rule.words 0) (rule.marks 0) tokens at

-- the code of a reason
abbrev pub code_of : Why → Code
code_of Unexpected = E05
code_of TooMany = E14

-- the place of a token, or that after the last byte where there is no token
abbrev pub place_or_end : List ℕ → Option Token → Place
place_or_end bytes None = end_place bytes
place_or_end bytes (Some token) = token.at

-- the place of the token of a number, where the number of tokens stands for the end
unfoldable pub place_of : List ℕ → List Token → ℕ → Place
place_of bytes tokens number = place_or_end bytes (slice_get tokens number)

-- the tokens are refused with this code at this place: those of the refused token
abbrev pub RefusesAt : {V : Type 0} → Rule V → List ℕ → List Token → Code → Place → Type 0
RefusesAt rule bytes tokens code at =
    (why : Why) × (number : ℕ) × IsRefusedAt rule (seen bytes tokens) why number × (code ≡ code_of why)
    × (at ≡ place_of bytes tokens number)

-- no value is derived on these tokens, unless memory was wanted
abbrev pub HasNone : {V : Type 0} → Rule V → List Seen → Stop → Type 0
HasNone {V} rule tokens (Refused refusal) = (value : V) → IsDerived rule tokens value → ⊥
HasNone {V} rule tokens NoMemory = Unit {0}

-- the refusal is right and names no module, unless memory was wanted
abbrev pub IsRefusal : {V : Type 0} → Rule V → List ℕ → List Token → Stop → Type 0
IsRefusal rule bytes tokens (Refused refusal) =
    RefusesAt rule bytes tokens refusal.code refusal.at × (refusal.module ≡ None)
IsRefusal rule bytes tokens NoMemory = Unit {0}

-- what is answered where reading stops at the token of this number
abbrev pub stop_of : List ℕ → List Token → ℕ → Halt → Stop
stop_of bytes tokens number (Misfit why) =
    Refused (record { code = code_of why; at = place_of bytes tokens number; «module» = None })
stop_of bytes tokens number OutOfMemory = NoMemory

-- ---- for streams, and for modules of a name

-- this is the outline of a stream with these tokens
abbrev pub IsOutline : List Seen → Outline → Type 0
IsOutline = IsDerived stream

-- a stream with these tokens is refused with this code at this place
abbrev pub Refuses : List ℕ → List Token → Code → Place → Type 0
Refuses = RefusesAt stream

-- this is the outline of a module of this name with these tokens
abbrev pub IsModuleOutline : Name → List Seen → ModuleOutline → Type 0
IsModuleOutline name = IsDerived (module_text name)

-- a module of this name with these tokens is refused with this code at this place
abbrev pub RefusesModule : Name → List ℕ → List Token → Code → Place → Type 0
RefusesModule name = RefusesAt (module_text name)
