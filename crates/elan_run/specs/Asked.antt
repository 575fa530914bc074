-- What the calls ensure that make a program of a stream, with loaders.
use Rattle.std.specs.Prelude.{◌≡◌, ℕ, false, true, List, Result, Ok, Err, IfOk}
use Rattle.elan_lexer.specs.declared.token.Token.{Token}
use Rattle.elan_syntax.specs.declared.parts.Outline.{Outline}
use Rattle.elan_loaders.specs.Libraries.{SomeRose}
use Rattle.elan_modules.specs.declared.flat.Flat.{Flat}
use Rattle.elan_modules.specs.declared.flat.FlattenRefusal.{FlattenRefusal}
use Rattle.elan_modules.specs.declared.flat.FlattenRefusal.TheVariants.{Refused, LoaderFault, NoMemory}
use Rattle.elan_modules.specs.Visits.{Library, needs_loaders, nobody}
use Rattle.elan_modules.specs.Flattens.{StopsAt}
use Rattle.elan_modules.specs.Walks.{Shelf, IsSound, IsAnswer, Comes, is_fault}
use Rattle.elan_modules.specs.Loads.{itself}
use Rattle.elan_check.specs.declared.prepared.Prepared.{Prepared}
use Rattle.elan_check.specs.Validity.{IsPrepared}
use Rattle.elan_cli.specs.declared.given.Options.{Options}
use Rattle.elan_run.specs.declared.answer.Answer.{Answer}
use Rattle.elan_run.specs.declared.answer.Unanswered.{Unanswered}
use Rattle.elan_run.specs.declared.answer.Unanswered.TheVariants as unanswered
use Rattle.elan_run.specs.Verdict.{asked_of, prepared_of, or_halted, Accepted, BadProgram, Says}

-- a call gives what a stream asks
pub record Tells (bytes : List ℕ) (tokens : List Token) (outline : Outline) (before after : Shelf)
    (result : Result Prepared FlattenRefusal) : Type 0 where
  -- it comes to what is asked over every library that says what the loaders tell, or nothing
  pub comes : (library : Library) → IsSound library before.told → Comes itself result (asked_of library bytes tokens outline)
  -- where the stream needs no loaders, it comes to what is asked over none
  pub alone : needs_loaders bytes tokens outline ≡ false → Comes itself result (asked_of nobody bytes tokens outline)
  -- it is what is asked over some library that says what the loaders can have answered; or a loader failed, or memory was
  -- wanted
  pub answered : (library : Library) × IsAnswer before.told library × StopsAt result (asked_of library bytes tokens outline)
  -- a loader fails only where a count of faults rose and the stream needs loaders
  pub fault : is_fault result ≡ true → SomeRose before.failures after.failures
  pub needed : is_fault result ≡ true → needs_loaders bytes tokens outline ≡ true

-- a call gives what a flat program asks, which is valid
pub record IsPreparedIn (flat : Flat) (result : Result Prepared FlattenRefusal) : Type 0 where
  pub comes : Comes itself result (or_halted (prepared_of flat))
  pub valid : IfOk result (λ p. IsPrepared p)
  pub fault : is_fault result ≡ false

-- the text and the status are those of what a call found; or memory was wanted for them, or for what was to be found, or
-- a loader failed
abbrev pub IsTold : Options → Result Prepared FlattenRefusal → Result Answer Unanswered → Type 0
IsTold o (Ok p) (Ok a) = Says (Accepted o p) a.text.items a.status
IsTold o (Ok p) (Err why) = why ≡ unanswered.NoMemory
IsTold o (Err (Refused r)) (Ok a) = Says (BadProgram r) a.text.items a.status
IsTold o (Err (Refused r)) (Err why) = why ≡ unanswered.NoMemory
IsTold o (Err LoaderFault) (Ok a) = ⊥
IsTold o (Err LoaderFault) (Err why) = why ≡ unanswered.LoaderFault
IsTold o (Err NoMemory) (Ok a) = ⊥
IsTold o (Err NoMemory) (Err why) = why ≡ unanswered.NoMemory
