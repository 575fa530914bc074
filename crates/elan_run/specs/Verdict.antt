-- What is written and answered for which words and which input: the first case that applies decides. An input is the bytes of
-- a stream with the texts that loaders have for modules that it lacks.
use Rattle.std.specs.Prelude.{◌≡◌, ◌<◌, ◌≤◌, ◌⊎◌, ℕ, false, true, Option, Some, None, List, length, Result, Ok, Err}
use Rattle.elan_text.specs.declared.refusal.Code.{Code}
use Rattle.elan_text.specs.declared.refusal.Code.TheVariants.{E01}
use Rattle.elan_text.specs.declared.refusal.Place.{Place}
use Rattle.elan_text.specs.declared.refusal.Refusal.{Refusal}
use Rattle.elan_text.specs.declared.refusal.Stop.{Stop}
use Rattle.elan_text.specs.declared.refusal.Stop.TheVariants as stop
use Rattle.elan_lexer.specs.declared.token.Token.{Token}
use Rattle.elan_lexer.specs.Text.{Fits, Refuses as RefusesToken}
use Rattle.elan_syntax.specs.declared.parts.Outline.{Outline}
use Rattle.elan_phrases.specs.Symbols.{seen}
use Rattle.elan_syntax.specs.Outlines.{IsOutline, Refuses as RefusesOutline}
use Rattle.elan_loaders.specs.Libraries.{Library as Texts}
use Rattle.elan_modules.specs.declared.flat.Flat.{Flat}
use Rattle.elan_modules.specs.Visits.{Library, Halted, Refuses, Silent, flat_program, needs_loaders, nobody}
use Rattle.elan_modules.specs.Walks.{IsSound, IsAnswer}
use Rattle.elan_signature.specs.Whole.{signature_of}
use Rattle.elan_names.specs.Resolved.{next}
use Rattle.elan_check.specs.declared.prepared.Prepared.{Prepared}
use Rattle.elan_check.specs.Walk.{checked}
use Rattle.elan_reader.specs.Asked.{chart_reader}
use Rattle.elan_meaning.specs.declared.item.Item.{Item}
use Rattle.elan_meaning.specs.Meaning.{answers}
use Rattle.elan_run.specs.declared.status.Status.{Status}
use Rattle.elan_run.specs.declared.status.Status.TheVariants as status
use Rattle.elan_cli.specs.Line.{options_of}
use Rattle.elan_cli.specs.Words.{Word}
use Rattle.elan_cli.specs.declared.given.Options.{Options}
use Rattle.elan_demo.specs.Demo.{demo_input}
use Rattle.elan_run.specs.Lines.{usage_line, refusal_line, shown}
use Rattle.elan_print.specs.Refusals as refusals

-- how many bytes an input may have
abbrev pub most_bytes : ℕ
most_bytes = 4194304

-- ---- what words choose

-- the options that the words of a command line give for the plain engine, or none where the words are refused
abbrev pub chosen_by : List Word → Option Options
chosen_by words = options_of true words

-- the words are accepted
abbrev pub AreAccepted : Option Options → Type 0
AreAccepted None = ⊥
AreAccepted (Some o) = Unit {0}

-- the input that is generated from a number, if there is one; else what the source has left
abbrev pub input_with : Option ℕ → List ℕ → List ℕ
input_with None bytes = bytes
input_with (Some number) bytes = demo_input number

-- the input of a run for what its words choose
abbrev pub input_of : Option Options → List ℕ → List ℕ
input_of None bytes = bytes
input_of (Some o) bytes = input_with o.demo bytes

-- the input of a run is what its source has left
abbrev pub IsReadWith : Option ℕ → Type 0
IsReadWith None = Unit {0}
IsReadWith (Some number) = ⊥

abbrev pub IsRead : Option Options → Type 0
IsRead None = ⊥
IsRead (Some o) = IsReadWith o.demo

-- ---- what a stream asks

-- the signature of a flat program, and over it the checked program with what is asked of it; or the first refusal
unfoldable pub prepared_of : Flat → Result Prepared Refusal
prepared_of flat = next (signature_of flat) (checked chart_reader flat)

-- a value, or a refusal that ends a walk
abbrev pub or_halted : {A : Type 0} → Result A Refusal → Result A Halted
or_halted (Ok a) = Ok a
or_halted (Err refusal) = Err (Refuses refusal)

-- What a stream with these tokens and this outline asks, where a library has the texts that it lacks: the flat program,
-- then its signature, and then what is checked. Or the first refusal; or it comes to a name of which nothing is told.
unfoldable pub asked_of : Library → List ℕ → List Token → Outline → Result Prepared Halted
asked_of library bytes tokens outline =
    next (flat_program library bytes tokens outline) (λ flat. or_halted (prepared_of flat))

-- the bytes have tokens and an outline, and this is what they ask
abbrev pub Asks : Library → List ℕ → Result Prepared Halted → Type 0
Asks library bytes asked =
    (tokens : List Token) × (outline : Outline) × Fits bytes tokens × IsOutline (seen bytes tokens) outline
    × (asked_of library bytes tokens outline ≡ asked)

-- the bytes have tokens and no outline, and are refused with this code at this place
abbrev pub LacksOutline : List ℕ → Code → Place → Type 0
LacksOutline bytes code at = (tokens : List Token) × Fits bytes tokens × RefusesOutline bytes tokens code at

-- it is the bytes' lack of an outline that is answered, unless memory was wanted
abbrev pub IsLack : List ℕ → Stop → Type 0
IsLack bytes (stop.Refused refusal) = LacksOutline bytes refusal.code refusal.at
IsLack bytes stop.NoMemory = Unit {0}

-- ---- loaders

-- a stream needs no loaders: it lacks no text of a module that its walk comes to
abbrev pub NeedsNone : List ℕ → Type 0
NeedsNone bytes =
    (tokens : List Token) (outline : Outline) → Fits bytes tokens → IsOutline (seen bytes tokens) outline
    → needs_loaders bytes tokens outline ≡ false

-- a stream needs loaders
abbrev pub NeedsSome : List ℕ → Type 0
NeedsSome bytes =
    (tokens : List Token) × (outline : Outline) × Fits bytes tokens × IsOutline (seen bytes tokens) outline
    × (needs_loaders bytes tokens outline ≡ true)

-- A library may be taken for the loaders where it says of each name what they tell, or nothing; or where it has no texts
-- and the stream needs none.
abbrev pub StandsFor : List (Option Texts) → List ℕ → Library → Type 0
StandsFor told bytes library = IsSound library told ⊎ ((library ≡ nobody) × NeedsNone bytes)

-- ---- verdicts

-- the list that sequential backtracking defines, where each path has so many steps
abbrev pub items_of : ℕ → Prepared → List Item
items_of steps p = answers p.program p.start p.query steps

-- what may be said of words and an input
pub data Verdict : Type 0 where
  Misused : Verdict
  TooLong : Verdict
  BadToken : Code → Place → Verdict
  BadOutline : Code → Place → Verdict
  BadProgram : Refusal → Verdict
  Accepted : Options → Prepared → Verdict

-- The words are refused. Or they are accepted, and the input is too long; or it has no tokens, and is refused at the least
-- place that is at fault; or its tokens have no outline, and it is refused at the token that decides; or its program is
-- refused; or it is accepted, and the words choose how it runs.
abbrev pub IsVerdict : Option Options → Library → List ℕ → Verdict → Type 0
IsVerdict chosen library input Misused = chosen ≡ None
IsVerdict chosen library input TooLong = AreAccepted chosen × (most_bytes < length input)
IsVerdict chosen library input (BadToken code at) =
    AreAccepted chosen × (length input ≤ most_bytes) × RefusesToken input code at
IsVerdict chosen library input (BadOutline code at) =
    AreAccepted chosen × (length input ≤ most_bytes) × LacksOutline input code at
IsVerdict chosen library input (BadProgram refusal) =
    AreAccepted chosen × (length input ≤ most_bytes) × Asks library input (Err (Refuses refusal))
IsVerdict chosen library input (Accepted o p) =
    (chosen ≡ Some o) × (length input ≤ most_bytes) × Asks library input (Ok p)

-- there is no verdict, since the input comes to a name of which nothing is told
abbrev pub IsSilent : Option Options → Library → List ℕ → Type 0
IsSilent chosen library input = AreAccepted chosen × (length input ≤ most_bytes) × Asks library input (Err Silent)

-- a refusal of the whole stream stands at its first byte
abbrev pub first_place : Place
first_place = record { line = 1; column = 1 }

-- what is written for a verdict
abbrev pub text_for : Verdict → List ℕ
text_for Misused = usage_line
text_for TooLong = refusal_line E01 first_place
text_for (BadToken code at) = refusal_line code at
text_for (BadOutline code at) = refusal_line code at
text_for (BadProgram refusal) = refusals.refusal_line refusal
text_for (Accepted o p) = shown o.demo p.program.signature o.limit (items_of o.steps p)

-- what is answered for a verdict
abbrev pub status_for : Verdict → Status
status_for Misused = status.Usage
status_for TooLong = status.Refused E01
status_for (BadToken code at) = status.Refused code
status_for (BadOutline code at) = status.Refused code
status_for (BadProgram refusal) = status.Refused refusal.code
status_for (Accepted o p) = status.Done

-- this text and this status are those of the verdict
pub record Says (verdict : Verdict) (text : List ℕ) (answer : Status) : Type 0 where
  pub text_is : text ≡ text_for verdict
  pub answer_is : answer ≡ status_for verdict

-- the text and the status for what words choose and an input
pub record IsReport (chosen : Option Options) (library : Library) (input text : List ℕ) (answer : Status) : Type 0 where
  pub verdict : Verdict
  pub applies : IsVerdict chosen library input verdict
  pub says : Says verdict text answer

-- The text and the status are those of a verdict. This is the verdict over each library that may be taken for the loaders,
-- where that tells enough; and it is the verdict over some library that says what the loaders can have answered.
pub record IsReportFor (chosen : Option Options) (told : List (Option Texts)) (input text : List ℕ) (answer : Status)
    : Type 0 where
  pub verdict : Verdict
  pub says : Says verdict text answer
  pub applies : (library : Library) → StandsFor told input library
      → IsVerdict chosen library input verdict ⊎ IsSilent chosen library input
  pub answered : (library : Library) × IsAnswer told library × IsVerdict chosen library input verdict
