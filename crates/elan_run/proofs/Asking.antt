-- What is answered follows from the tokens of a text, its outline and what that asks.
use Rattle.std.proofs.Common.{◌≡◌, ◌≤◌, ◌⊎◌, inl, inr, ℕ, false, List, [], ◌∷◌, length, Option, Some, Result, Ok, Err, IfOk, IfErr, refl, sym, ◌∙◌, ap, subst, arith}
use Rattle.elan_text.specs.declared.refusal.Refusal.{Refusal}
use Rattle.elan_text.specs.declared.refusal.Code.{Code}
use Rattle.elan_text.specs.declared.refusal.Place.{Place}
use Rattle.elan_text.specs.declared.refusal.Stop.{Stop}
use Rattle.elan_text.specs.declared.refusal.Stop.TheVariants as stop
use Rattle.elan_lexer.specs.declared.token.Token.{Token}
use Rattle.elan_lexer.specs.Text.{Fits, Refuses as RefusesToken, IsRefusal as IsTokenRefusal}
use Rattle.elan_phrases.specs.Symbols.{seen}
use Rattle.elan_syntax.specs.declared.parts.Outline.{Outline}
use Rattle.elan_syntax.specs.Grammar.{stream}
use Rattle.elan_syntax.specs.Outlines.{IsOutline, Refuses as RefusesOutline, IsRefusal as IsOutlineRefusal}
use Rattle.elan_loaders.specs.Libraries.{Library as Texts, NoneFell}
use Rattle.elan_modules.specs.declared.flat.FlattenRefusal.{FlattenRefusal}
use Rattle.elan_modules.specs.declared.flat.FlattenRefusal.TheVariants.{Refused, LoaderFault, NoMemory}
use Rattle.elan_modules.specs.Loads.{itself}
use Rattle.elan_modules.specs.Visits.{Library, Halted, Refuses, Silent, needs_loaders}
use Rattle.elan_modules.specs.Walks.{Shelf, Comes, Moved, Untouched, nothing}
use Rattle.elan_check.specs.declared.prepared.Prepared.{Prepared}
use Rattle.elan_cli.specs.declared.given.Options.{Options}
use Rattle.elan_run.specs.declared.answer.Answer.{Answer}
use Rattle.elan_run.specs.declared.answer.Unanswered.{Unanswered}
use Rattle.elan_run.specs.Asked.{Tells, IsTold}
use Rattle.elan_run.specs.Runs.{IsWhy}
use Rattle.elan_run.specs.Verdict.{most_bytes, asked_of, StandsFor, NeedsNone, LacksOutline, BadToken, BadOutline, BadProgram, Accepted, IsVerdict, IsSilent, IsReportFor, Says}

-- ---- loaders that were not asked

none_fell : (ns : List ℕ) → NoneFell ns ns
none_fell [] = tt
none_fell (n ∷ ns) = (grind arith, none_fell ns)

pub not_moved : (s : Shelf) → Moved s s
not_moved s = record { told = refl; misses = none_fell s.misses; failures = none_fell s.failures }

pub not_touched : (s : Shelf) → Untouched s s
not_touched s = record { misses = refl; failures = refl }

-- ---- refusals of tokens and outlines

-- the refusal that is answered is right
pub refused_tokens : (bytes : List ℕ) (s : Stop) (r : Refusal) → IsTokenRefusal bytes s → s ≡ stop.Refused r
    → RefusesToken bytes r.code r.at
refused_tokens bytes s r is e = (subst (IsTokenRefusal bytes) e is).0

pub refused_outline : (bytes : List ℕ) (tokens : List Token) (s : Stop) (r : Refusal)
    → IsOutlineRefusal stream bytes tokens s → s ≡ stop.Refused r → RefusesOutline bytes tokens r.code r.at
refused_outline bytes tokens s r is e = (subst (IsOutlineRefusal stream bytes tokens) e is).0

pub token_reported : {E : Type 0} (chosen : Options) (told : List (Option Texts)) (bytes : List ℕ) (code : Code) (at : Place) (made : Result Answer E)
    → length bytes ≤ most_bytes → RefusesToken bytes code at → IfOk made (λ a. Says (BadToken code at) a.text.items a.status)
    → IfOk made (λ a. IsReportFor (Some chosen) told bytes a.text.items a.status)
token_reported chosen told bytes code at (Ok a) within refuses says = record {
  verdict = BadToken code at;
  says = says;
  applies = λ library stands. inl (tt, within, refuses);
  answered = (nothing, λ name. tt, (tt, within, refuses));
}
token_reported chosen told bytes code at (Err e) within refuses says = tt

pub outline_reported : {E : Type 0} (chosen : Options) (told : List (Option Texts)) (bytes : List ℕ) (code : Code) (at : Place) (made : Result Answer E)
    → length bytes ≤ most_bytes → LacksOutline bytes code at → IfOk made (λ a. Says (BadOutline code at) a.text.items a.status)
    → IfOk made (λ a. IsReportFor (Some chosen) told bytes a.text.items a.status)
outline_reported chosen told bytes code at (Ok a) within lacks says = record {
  verdict = BadOutline code at;
  says = says;
  applies = λ library stands. inl (tt, within, lacks);
  answered = (nothing, λ name. tt, (tt, within, lacks));
}
outline_reported chosen told bytes code at (Err e) within lacks says = tt

-- ---- what a stream asks

module _ (chosen : Options) (bytes : List ℕ) (tokens : List Token) (outline : Outline) (within : length bytes ≤ most_bytes) (fits : Fits bytes tokens)
    (outlined : IsOutline (seen bytes tokens) outline) where
  module _ (library : Library) where
    accepted_over : (p : Prepared) (d : Result Prepared Halted) → asked_of library bytes tokens outline ≡ d → Comes itself (Ok p) d
        → IsVerdict (Some chosen) library bytes (Accepted chosen p) ⊎ IsSilent (Some chosen) library bytes
    accepted_over p (Ok q) e is = inl (refl, within, (tokens, outline, fits, outlined, e ∙ ap Ok is))
    accepted_over p (Err (Refuses r)) e is = absurd is
    accepted_over p (Err Silent) e is = inr (tt, within, (tokens, outline, fits, outlined, e))

    refused_over : (r : Refusal) (d : Result Prepared Halted) → asked_of library bytes tokens outline ≡ d → Comes itself (Err (Refused r)) d
        → IsVerdict (Some chosen) library bytes (BadProgram r) ⊎ IsSilent (Some chosen) library bytes
    refused_over r (Ok q) e is = absurd is
    refused_over r (Err (Refuses u)) e is = inl (tt, within, (tokens, outline, fits, outlined, e ∙ ap (λ z. Err (Refuses z)) is))
    refused_over r (Err Silent) e is = inr (tt, within, (tokens, outline, fits, outlined, e))

  module _ (s t : Shelf) (found : Result Prepared FlattenRefusal) (tells : Tells bytes tokens outline s t found) where
    -- over a library that may be taken for the loaders
    over : (library : Library) → StandsFor s.told bytes library → Comes itself found (asked_of library bytes tokens outline)
    over library (inl sound) = tells.comes library sound
    over library (inr none) =
        let P : Library → Type 0 = λ l. Comes itself found (asked_of l bytes tokens outline) in
        subst P (sym none.0) (tells.alone (none.1 tokens outline fits outlined))

  pub reported : (s t : Shelf) (found : Result Prepared FlattenRefusal) (made : Result Answer Unanswered)
      → Tells bytes tokens outline s t found → IsTold chosen found made
      → IfOk made (λ a. IsReportFor (Some chosen) s.told bytes a.text.items a.status)
  reported s t (Ok p) (Ok a) tells says = record {
    verdict = Accepted chosen p;
    says = says;
    applies = λ library stands. accepted_over library p (asked_of library bytes tokens outline) refl (over s t (Ok p) tells library stands);
    answered = (
      tells.answered.0,
      tells.answered.1,
      (refl, within, (tokens, outline, fits, outlined, tells.answered.2)),
    );
  }
  reported s t (Err (Refused r)) (Ok a) tells says = record {
    verdict = BadProgram r;
    says = says;
    applies = λ library stands. refused_over library r (asked_of library bytes tokens outline) refl (over s t (Err (Refused r)) tells library stands);
    answered = (
      tells.answered.0,
      tells.answered.1,
      (tt, within, (tokens, outline, fits, outlined, tells.answered.2)),
    );
  }
  reported s t (Err LoaderFault) (Ok a) tells says = absurd says
  reported s t (Err NoMemory) (Ok a) tells says = absurd says
  reported s t (Ok p) (Err why) tells says = tt
  reported s t (Err e) (Err why) tells says = tt

  pub told_why : (s t : Shelf) (found : Result Prepared FlattenRefusal) (made : Result Answer Unanswered)
      → Tells bytes tokens outline s t found → IsTold chosen found made → IfErr made (λ e. IsWhy bytes s t e)
  told_why s t (Ok p) (Err why) tells is = subst (IsWhy bytes s t) (sym is) tt
  told_why s t (Err (Refused r)) (Err why) tells is = subst (IsWhy bytes s t) (sym is) tt
  told_why s t (Err LoaderFault) (Err why) tells is =
      subst (IsWhy bytes s t) (sym is) (tells.fault refl, (tokens, outline, fits, outlined, tells.needed refl))
  told_why s t (Err NoMemory) (Err why) tells is = subst (IsWhy bytes s t) (sym is) tt
  told_why s t (Ok p) (Ok a) tells is = tt
  told_why s t (Err e) (Ok a) tells is = tt
