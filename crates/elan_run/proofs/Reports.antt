-- Words and an input have a verdict over a library that tells of each name, and so a report.
use Rattle.std.proofs.Common.{◌≡◌, ◌≢◌, ◌<◌, ◌≤◌, ◌⊎◌, inl, inr, ℕ, Bool, true, false, nat_le, List, [], ◌∷◌, length, Option, Some, None, Result, Ok, Err, refl, arith}
use Rattle.elan_text.specs.declared.refusal.Code.{Code}
use Rattle.elan_text.specs.declared.refusal.Place.{Place}
use Rattle.elan_text.specs.declared.refusal.Refusal.{Refusal}
use Rattle.elan_lexer.specs.declared.token.Token.{Token}
use Rattle.elan_lexer.specs.Text.{Fits, Refuses as RefusesToken}
use Rattle.elan_lexer.proofs.Answered.{answered}
use Rattle.elan_phrases.specs.Symbols.{seen}
use Rattle.elan_syntax.specs.declared.parts.Outline.{Outline}
use Rattle.elan_syntax.specs.Grammar.{stream}
use Rattle.elan_syntax.specs.Outlines.{IsOutline, Refuses as RefusesOutline}
use Rattle.elan_syntax.proofs.ExactStreams.{stream_gives}
use Rattle.elan_syntax.proofs.Whole.{some_value}
use Rattle.elan_loaders.specs.Libraries.{Library as Texts, Told, Untold, found_or, first_told}
use Rattle.elan_names.specs.Resolved.{next}
use Rattle.elan_modules.specs.declared.flat.Flat.{Flat}
use Rattle.elan_modules.specs.Flattens.{AllTold}
use Rattle.elan_modules.specs.Visits.{Library, Halted, Refuses, Silent, flat_program}
use Rattle.elan_modules.specs.Walks.{is_silent}
use Rattle.elan_modules.proofs.FlattenLemmas.{heard_program}
use Rattle.elan_check.specs.declared.prepared.Prepared.{Prepared}
use Rattle.elan_cli.specs.declared.given.Options.{Options}
use Rattle.elan_run.specs.declared.status.Status.{Status}
use Rattle.elan_run.specs.Verdict.{most_bytes, asked_of, prepared_of, or_halted, Verdict, Misused, TooLong, BadToken, BadOutline, BadProgram, Accepted, IsVerdict, IsReport, text_for, status_for}

-- a verdict that applies
abbrev Meets : Option Options → Library → List ℕ → Type 0
Meets c library bytes = (v : Verdict) × IsVerdict c library bytes v

is_within : (n m : ℕ) → nat_le n m ≡ true → n ≤ m
is_within n m e = grind (arith, e)

is_past : (n m : ℕ) → nat_le n m ≡ false → m < n
is_past n m e = grind (arith, e)

-- what follows a flat program comes to no name
heard_next : (x : Result Flat Halted) → is_silent x ≡ false → is_silent (next x (λ flat. or_halted (prepared_of flat))) ≡ false
heard_next (Ok flat) h = here (prepared_of flat)
  where
    here : (r : Result Prepared Refusal) → is_silent (or_halted r) ≡ false
    here (Ok p) = refl
    here (Err r) = refl
heard_next (Err (Refuses r)) h = refl
heard_next (Err Silent) h = absurd cc

-- the library tells of each name
module _ (library : Library) (tells : (name : List ℕ) → library name ≢ Untold) where
  heard_asked : (bytes : List ℕ) (tokens : List Token) (outline : Outline) → is_silent (asked_of library bytes tokens outline) ≡ false
  unfolding asked_of
  heard_asked bytes tokens outline = heard_next (flat_program library bytes tokens outline) (heard_program library tells bytes tokens outline)

  module _ (chosen : Options) (bytes : List ℕ) (within : length bytes ≤ most_bytes) where
    -- tokens with an outline ask something, or their program is refused
    of_outline : (tokens : List Token) (o : Outline) → Fits bytes tokens → IsOutline (seen bytes tokens) o
        → (r : Result Prepared Halted) → asked_of library bytes tokens o ≡ r → is_silent r ≡ false → Meets (Some chosen) library bytes
    of_outline tokens o fits is (Ok p) e heard = (Accepted chosen p, (refl, within, (tokens, o, fits, is, e)))
    of_outline tokens o fits is (Err (Refuses r)) e heard = (BadProgram r, (tt, within, (tokens, o, fits, is, e)))
    of_outline tokens o fits is (Err Silent) e heard = absurd cc

    -- tokens have an outline or lack one
    of_tokens : (tokens : List Token) → Fits bytes tokens
        → ((o : Outline) × IsOutline (seen bytes tokens) o) ⊎ ((c : Code) × (at : Place) × RefusesOutline bytes tokens c at)
        → Meets (Some chosen) library bytes
    of_tokens tokens fits (inl o) = of_outline tokens o.0 fits o.1 (asked_of library bytes tokens o.0) refl (heard_asked bytes tokens o.0)
    of_tokens tokens fits (inr r) = (BadOutline r.0 r.1, (tt, within, (tokens, fits, r.2)))

    -- a text has tokens or is refused
    of_text : ((tokens : List Token) × Fits bytes tokens) ⊎ ((c : Code) × (at : Place) × RefusesToken bytes c at) → Meets (Some chosen) library bytes
    of_text (inl t) = of_tokens t.0 t.1 (some_value stream stream_gives bytes t.0)
    of_text (inr r) = (BadToken r.0 r.1, (tt, within, r.2))

  -- an input has a verdict, whatever words choose
  of_bytes : (chosen : Options) (bytes : List ℕ) (b : Bool) → nat_le (length bytes) most_bytes ≡ b → Meets (Some chosen) library bytes
  of_bytes chosen bytes true e = let within = is_within (length bytes) most_bytes e in of_text chosen bytes within (answered bytes)
  of_bytes chosen bytes false e = (TooLong, (tt, is_past (length bytes) most_bytes e))

  some_verdict : (c : Option Options) (bytes : List ℕ) → Meets c library bytes
  some_verdict (Some chosen) bytes = of_bytes chosen bytes (nat_le (length bytes) most_bytes) refl
  some_verdict None bytes = (Misused, refl)

  -- words and an input have a report
  pub some_report : (c : Option Options) (bytes : List ℕ) → (text : List ℕ) × (answer : Status) × IsReport c library bytes text answer
  some_report c bytes =
      let v = some_verdict c bytes in
      (text_for v.0, status_for v.0, record { verdict = v.0; applies = v.1; says = record { text_is = refl; answer_is = refl } })

-- ---- loaders that tell

tells_found : (x : Option (List ℕ)) (others : Told) → others ≢ Untold → found_or x others ≢ Untold
tells_found (Some text) others tells e = absurd cc
tells_found None others tells e = tells e

-- loaders of which each tells its library tell of each name
tells_each : (told : List (Option Texts)) → AllTold told → (name : List ℕ) → first_told told name ≢ Untold
tells_each [] all name e = absurd cc
tells_each (None ∷ others) all name e = absurd all
tells_each (Some library ∷ others) all name e =
    tells_found (library name) (first_told others name) (tells_each others all name) e

pub told_report : (c : Option Options) (told : List (Option Texts)) → AllTold told → (bytes : List ℕ)
    → (text : List ℕ) × (answer : Status) × IsReport c (first_told told) bytes text answer
told_report c told all bytes = some_report (first_told told) (tells_each told all) c bytes
