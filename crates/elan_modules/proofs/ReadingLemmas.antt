-- A loaded text is read as its tokens and its outline are.
use Rattle.std.proofs.Common.{◌≡◌, ℕ, ◌-◌, true, List, Some, Ok, Err, length, inl, inr, refl, sym, ap, ◌∙◌, subst}
use Rattle.elan_text.specs.declared.name.Name.{Name}
use Rattle.elan_text.specs.declared.refusal.Code.{Code}
use Rattle.elan_text.specs.declared.refusal.Place.{Place}
use Rattle.elan_text.specs.declared.refusal.Refusal.{Refusal}
use Rattle.elan_lexer.specs.declared.token.Token.{Token}
use Rattle.elan_lexer.specs.Pieces.{code_of as code_of_fault}
use Rattle.elan_lexer.specs.Text.{Fits}
use Rattle.elan_lexer.specs.Lex.{Lexed, lexed}
use Rattle.elan_lexer.proofs.Answered.{fits, refuses}
use Rattle.elan_forms.specs.Whole.{Answer, done, refused}
use Rattle.elan_phrases.specs.Symbols.{Seen, seen, is_unreserved}
use Rattle.elan_phrases.specs.declared.halt.Halt.TheVariants.{Misfit}
use Rattle.elan_syntax.specs.declared.parts.ModuleOutline.{ModuleOutline}
use Rattle.elan_syntax.specs.Grammar.{module_text}
use Rattle.elan_syntax.specs.Outlines.{code_of, place_of}
use Rattle.elan_syntax.proofs.ExactStreams.{module_gives}
use Rattle.elan_syntax.proofs.Whole.{value_found, stop_refuses}
use Rattle.elan_modules.specs.declared.flat.LoadedText.{LoadedText}
use Rattle.elan_modules.specs.Modules.{Opened, loaded_text, outlined, cut, opened, refusal_in}
use Rattle.elan_modules.specs.Readings.{IsReadAs, IsUnread}
use Rattle.elan_modules.proofs.OpenedLemmas.{lexed_found, NoTokens, lexed_refused, IsRead, IsReadRefused, read_found, read_refused}

-- what is known of what was opened
abbrev Known : Name → List ℕ → Opened → Type 0
Known name bytes (Ok read) = IsReadAs name bytes read.0 read.1
Known name bytes (Err r) = IsUnread name bytes r

module _ (name : Name) (bytes : List ℕ) (unreserved : is_unreserved name.bytes ≡ true) where
  known_outline : (tokens : List Token) → Fits bytes tokens → (x : Answer Seen ModuleOutline)
      → (module_text name).read 0 (seen bytes tokens) ≡ x → Known name bytes (outlined name bytes tokens x)
  known_outline tokens is (done outline n rest) e = record {
    whole = refl;
    tokens = is;
    outline_is = value_found (module_text name) (module_gives name unreserved) (seen bytes tokens) outline n rest e;
  }
  known_outline tokens is (refused why rest) e = (
    refl,
    inr (
      tokens,
      is,
      (stop_refuses (module_text name) (module_gives name unreserved) bytes tokens rest (length tokens - length rest)
          (Misfit why) (λ _. e) refl).0,
    ),
  )

  known : Known name bytes (opened name bytes)
  unfolding opened
  known = go (lexed bytes) refl
    where
      go : (x : Lexed) → lexed bytes ≡ x → Known name bytes (cut name bytes x)
      go (Ok tokens) e = known_outline tokens (fits bytes tokens e) ((module_text name).read 0 (seen bytes tokens)) refl
      go (Err fault) e = (refl, inl (refuses bytes fault.0 fault.1 e))

  pub is_read : (text : LoadedText) (outline : ModuleOutline) → opened name bytes ≡ Ok (text, outline)
      → IsReadAs name bytes text outline
  is_read text outline e = subst (λ x. Known name bytes x) e known

  pub is_unread : (r : Refusal) → opened name bytes ≡ Err r → IsUnread name bytes r
  is_unread r e = subst (λ x. Known name bytes x) e known

  pub reads : (text : LoadedText) (outline : ModuleOutline) → IsReadAs name bytes text outline
      → opened name bytes ≡ Ok (text, outline)
  unfolding opened
  reads text outline is = rw (lexed_found bytes text.tokens is.tokens)
      (go ((module_text name).read 0 (seen bytes text.tokens)) (read_found name unreserved bytes text.tokens outline is.outline_is))
    where
      go : (x : Answer Seen ModuleOutline) → IsRead outline x → outlined name bytes text.tokens x ≡ Ok (text, outline)
      go (done other n rest) same =
          ap (λ o. Ok (loaded_text name bytes text.tokens o, o)) same ∙ ap (λ t. Ok (t, outline)) (sym is.whole)
      go (refused why rest) none = absurd none

  -- a refusal with its parts
  of_parts : (r : Refusal) (code : Code) (at : Place) → code ≡ r.code → at ≡ r.at → r.«module» ≡ Some name
      → refusal_in name code at ≡ r
  of_parts r code at c a m = ap (λ z. refusal_in name z at) c ∙ ap (λ z. refusal_in name r.code z) a
      ∙ ap (λ z. record { code = r.code; at = r.at; «module» = z }) (sym m)

  pub unreads : (r : Refusal) → IsUnread name bytes r → opened name bytes ≡ Err r
  unfolding opened
  unreads r (m, inl none) = go (lexed bytes) (lexed_refused bytes r.code r.at none)
    where
      go : (x : Lexed) → NoTokens bytes r.code r.at x → cut name bytes x ≡ Err r
      go (Ok tokens) none = absurd none
      go (Err fault) is = ap (λ z. Err z) (of_parts r (code_of_fault fault.0) fault.1 is.0 is.1 m)
  unreads r (m, inr (tokens, is, none)) = rw (lexed_found bytes tokens is)
      (go ((module_text name).read 0 (seen bytes tokens)) (read_refused name unreserved bytes tokens r.code r.at none))
    where
      go : (x : Answer Seen ModuleOutline) → IsReadRefused bytes tokens r.code r.at x → outlined name bytes tokens x ≡ Err r
      go (done other n rest) none = absurd none
      go (refused why rest) is =
          ap (λ z. Err z) (of_parts r (code_of why) (place_of bytes tokens (length tokens - length rest)) is.0 is.1 m)
