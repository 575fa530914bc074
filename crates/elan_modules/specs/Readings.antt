-- What the text of a loaded module is read as, by its tokens and its outline.
use Rattle.std.specs.Prelude.{◌≡◌, ℕ, List, ◌⊎◌, Some}
use Rattle.elan_text.specs.declared.name.Name.{Name}
use Rattle.elan_text.specs.declared.refusal.Refusal.{Refusal}
use Rattle.elan_lexer.specs.declared.token.Token.{Token}
use Rattle.elan_lexer.specs.Text.{Fits, Refuses}
use Rattle.elan_phrases.specs.Symbols.{seen}
use Rattle.elan_syntax.specs.declared.parts.ModuleOutline.{ModuleOutline}
use Rattle.elan_syntax.specs.Outlines.{IsModuleOutline, RefusesModule}
use Rattle.elan_modules.specs.declared.flat.LoadedText.{LoadedText}
use Rattle.elan_modules.specs.Modules.{loaded_text}

-- the text has its tokens, and its only module is the one with this outline
pub record IsReadAs (name : Name) (bytes : List ℕ) (text : LoadedText) (outline : ModuleOutline) : Type 0 where
  pub whole : text ≡ loaded_text name bytes text.tokens outline
  pub tokens : Fits bytes text.tokens
  pub outline_is : IsModuleOutline name (seen bytes text.tokens) outline

-- the text has no tokens, or its tokens are no module of the name; the refusal lies in it
abbrev pub IsUnread : Name → List ℕ → Refusal → Type 0
IsUnread name bytes r = (r.«module» ≡ Some name) × (Refuses bytes r.code r.at
    ⊎ ((tokens : List Token) × Fits bytes tokens × RefusesModule name bytes tokens r.code r.at))
