-- What is read of a loaded text is what its tokens and its outline are.
use Rattle.std.proofs.Common.{◌≡◌, ℕ, ◌-◌, true, List, Result, Ok, Err, length, refl, sym, ap, ◌∙◌}
use Rattle.elan_text.specs.declared.name.Name.{Name}
use Rattle.elan_text.specs.declared.refusal.Code.{Code}
use Rattle.elan_text.specs.declared.refusal.Place.{Place}
use Rattle.elan_lexer.specs.declared.token.Token.{Token}
use Rattle.elan_lexer.specs.Pieces.{code_of as code_of_fault}
use Rattle.elan_lexer.specs.Text.{Fits, Refuses, IsRefusal}
use Rattle.elan_lexer.specs.Lex.{Lexed, lexed}
use Rattle.elan_lexer.proofs.Answered.{apart, fits, fits_once, refuses, refuses_once}
use Rattle.elan_forms.specs.Whole.{Answer, done, refused}
use Rattle.elan_phrases.specs.Symbols.{Seen, seen, is_unreserved}
use Rattle.elan_syntax.specs.declared.parts.ModuleOutline.{ModuleOutline}
use Rattle.elan_syntax.specs.Grammar.{module_text}
use Rattle.elan_syntax.specs.Outlines.{IsModuleOutline, RefusesModule, IsRefusal as IsRefusalOf, code_of, place_of}
use Rattle.elan_syntax.proofs.ExactStreams.{module_gives}
use Rattle.elan_phrases.specs.declared.halt.Halt.TheVariants.{Misfit}
use Rattle.elan_syntax.proofs.Whole.{two_values, two_refusals, value_refused, value_found, stop_refuses}
use Rattle.elan_modules.specs.declared.flat.LoadedText.{LoadedText}
use Rattle.elan_modules.specs.Modules.{Opened, loaded_text, outlined, cut, opened, refusal_in}
use Rattle.elan_modules.specs.declared.flat.FlattenRefusal.{FlattenRefusal}
use Rattle.elan_modules.specs.declared.flat.FlattenRefusal.TheVariants.{Refused, LoaderFault, NoMemory}
use Rattle.elan_modules.specs.Openings.{InText, Opens}
use Rattle.elan_text.specs.declared.refusal.Stop.{Stop}
use Rattle.elan_text.specs.declared.refusal.Stop.TheVariants as stop
use Rattle.std.specs.Prelude.{IfOk, IfErr}

-- nothing is said where memory was wanted
no_memory : (x : Opened) → Opens x (Err NoMemory)
no_memory (Ok read) = tt
no_memory (Err r) = tt

-- ---- tokens

pub lexed_found : (bytes : List ℕ) (tokens : List Token) → Fits bytes tokens → lexed bytes ≡ Ok tokens
lexed_found bytes tokens is = go (lexed bytes) refl
  where
    go : (x : Lexed) → lexed bytes ≡ x → x ≡ Ok tokens
    go (Ok others) e = ap (λ z. Ok z) (fits_once bytes others tokens (fits bytes others e) is)
    go (Err fault) e = absurd (apart bytes tokens (code_of_fault fault.0) fault.1 is (refuses bytes fault.0 fault.1 e))

-- what is said where a text has no tokens
abbrev pub NoTokens : List ℕ → Code → Place → Lexed → Type 0
NoTokens bytes code at (Ok tokens) = ⊥
NoTokens bytes code at (Err fault) = (code_of_fault fault.0 ≡ code) × (fault.1 ≡ at)

pub lexed_refused : (bytes : List ℕ) (code : Code) (at : Place) → Refuses bytes code at → NoTokens bytes code at (lexed bytes)
lexed_refused bytes code at is = go (lexed bytes) refl
  where
    go : (x : Lexed) → lexed bytes ≡ x → NoTokens bytes code at x
    go (Ok tokens) e = apart bytes tokens code at (fits bytes tokens e) is
    go (Err fault) e = refuses_once bytes (code_of_fault fault.0) code fault.1 at (refuses bytes fault.0 fault.1 e) is

-- ---- outlines

-- the outline is what was read
abbrev pub IsRead : ModuleOutline → Answer Seen ModuleOutline → Type 0
IsRead outline (done other n rest) = other ≡ outline
IsRead outline (refused why rest) = ⊥

-- the refusal is what was read
abbrev pub IsReadRefused : List ℕ → List Token → Code → Place → Answer Seen ModuleOutline → Type 0
IsReadRefused bytes tokens code at (done other n rest) = ⊥
IsReadRefused bytes tokens code at (refused why rest) =
    (code_of why ≡ code) × (place_of bytes tokens (length tokens - length rest) ≡ at)

module _ (name : Name) (fits_name : is_unreserved name.bytes ≡ true) (bytes : List ℕ) (tokens : List Token) where
  pub read_found : (outline : ModuleOutline) → IsModuleOutline name (seen bytes tokens) outline
      → IsRead outline ((module_text name).read 0 (seen bytes tokens))
  read_found outline is = go ((module_text name).read 0 (seen bytes tokens)) refl
    where
      go : (x : Answer Seen ModuleOutline) → (module_text name).read 0 (seen bytes tokens) ≡ x → IsRead outline x
      go (done other n rest) e = two_values (module_text name) (module_gives name fits_name) (seen bytes tokens) other outline
          (value_found (module_text name) (module_gives name fits_name) (seen bytes tokens) other n rest e) is
      go (refused why rest) e = let found = stop_refuses (module_text name) (module_gives name fits_name) bytes tokens rest (length tokens - length rest) (Misfit why) (λ _. e) refl in
          value_refused (module_text name) (module_gives name fits_name) bytes tokens outline _ _ is found.0

  pub read_refused : (code : Code) (at : Place) → RefusesModule name bytes tokens code at
      → IsReadRefused bytes tokens code at ((module_text name).read 0 (seen bytes tokens))
  read_refused code at is = go ((module_text name).read 0 (seen bytes tokens)) refl
    where
      go : (x : Answer Seen ModuleOutline) → (module_text name).read 0 (seen bytes tokens) ≡ x → IsReadRefused bytes tokens code at x
      go (done other n rest) e = value_refused (module_text name) (module_gives name fits_name) bytes tokens other code at
          (value_found (module_text name) (module_gives name fits_name) (seen bytes tokens) other n rest e) is
      go (refused why rest) e = let found = stop_refuses (module_text name) (module_gives name fits_name) bytes tokens rest (length tokens - length rest) (Misfit why) (λ _. e) refl in
          two_refusals (module_text name) (module_gives name fits_name) bytes tokens _ _ _ _ found.0 is

-- ---- the whole text

pub opens_no_tokens : (name : Name) (bytes : List ℕ) (stop : Stop) (why : FlattenRefusal) → IsRefusal bytes stop
    → InText name stop why → Opens (opened name bytes) (Err why)
unfolding opened
opens_no_tokens name bytes (stop.Refused r) why is text = go (lexed bytes) (lexed_refused bytes r.code r.at is.0) why text
  where
    go : (x : Lexed) → NoTokens bytes r.code r.at x → (why : FlattenRefusal) → InText name (stop.Refused r) why
        → Opens (cut name bytes x) (Err why)
    go (Ok tokens) none why text = absurd none
    go (Err fault) none (Refused s) text =
        ap (λ c. refusal_in name c fault.1) none.0 ∙ ap (λ at. refusal_in name r.code at) none.1 ∙ sym text
    go (Err fault) none LoaderFault text = absurd text
    go (Err fault) none NoMemory text = tt
opens_no_tokens name bytes stop.NoMemory why is text = rw text (no_memory (opened name bytes))

pub opens_no_outline : (name : Name) (bytes : List ℕ) (tokens : List Token) (stop : Stop) (why : FlattenRefusal)
    → is_unreserved name.bytes ≡ true → Fits bytes tokens → IsRefusalOf (module_text name) bytes tokens stop
    → InText name stop why → Opens (opened name bytes) (Err why)
unfolding opened
opens_no_outline name bytes tokens (stop.Refused r) why unreserved fits is text =
    rw (lexed_found bytes tokens fits)
    (go ((module_text name).read 0 (seen bytes tokens)) (read_refused name unreserved bytes tokens r.code r.at is.0) why text)
  where
    go : (x : Answer Seen ModuleOutline) → IsReadRefused bytes tokens r.code r.at x → (why : FlattenRefusal)
        → InText name (stop.Refused r) why → Opens (outlined name bytes tokens x) (Err why)
    go (done outline n rest) none why text = absurd none
    go (refused reason rest) none (Refused s) text =
        ap (λ c. refusal_in name c (place_of bytes tokens (length tokens - length rest))) none.0
        ∙ ap (λ at. refusal_in name r.code at) none.1 ∙ sym text
    go (refused reason rest) none LoaderFault text = absurd text
    go (refused reason rest) none NoMemory text = tt
opens_no_outline name bytes tokens stop.NoMemory why unreserved fits is text = rw text (no_memory (opened name bytes))

pub opens_found : (name : Name) (bytes : List ℕ) (tokens : List Token) (outline : ModuleOutline)
    (result : Result LoadedText FlattenRefusal) → is_unreserved name.bytes ≡ true → Fits bytes tokens
    → IsModuleOutline name (seen bytes tokens) outline → IfOk result (λ text. text ≡ loaded_text name bytes tokens outline)
    → IfErr result (λ e. e ≡ NoMemory) → Opens (opened name bytes) result
unfolding opened
opens_found name bytes tokens outline result unreserved fits is made failed =
    rw (lexed_found bytes tokens fits)
    (go ((module_text name).read 0 (seen bytes tokens)) (read_found name unreserved bytes tokens outline is) result made failed)
  where
    go : (x : Answer Seen ModuleOutline) → IsRead outline x → (result : Result LoadedText FlattenRefusal)
        → IfOk result (λ text. text ≡ loaded_text name bytes tokens outline) → IfErr result (λ e. e ≡ NoMemory)
        → Opens (outlined name bytes tokens x) result
    go (done other n rest) same (Ok text) made failed =
        let whole = ap (loaded_text name bytes tokens) same ∙ sym made in
        (whole, ap (λ t. t.modules) (sym whole))
    go (done other n rest) same (Err why) made failed = rw failed tt
    go (refused why rest) none result made failed = absurd none
