-- What a run does to its source, its loaders and its sink.
use Rattle.std.specs.Prelude.{◌≡◌, ◌⊎◌, ℕ, Option, Some, None, Result, Ok, Err, List, ◌++◌}
use Rattle.elan_text.specs.Streams.{Appends, IsAtEnd, Rose}
use Rattle.elan_text.specs.Whole.{AppendsPart}
use Rattle.elan_loaders.specs.Libraries.{Library as Texts, SomeRose}
use Rattle.elan_modules.specs.Visits.{Library}
use Rattle.elan_modules.specs.Walks.{Shelf}
use Rattle.elan_check.specs.declared.prepared.Prepared.{Prepared}
use Rattle.elan_cli.specs.declared.given.Options.{Options}
use Rattle.elan_run.specs.declared.answer.Answer.{Answer}
use Rattle.elan_run.specs.declared.answer.Unanswered.{Unanswered}
use Rattle.elan_run.specs.declared.answer.Unanswered.TheVariants as unanswered
use Rattle.elan_run.specs.declared.status.Status.{Status}
use Rattle.elan_run.specs.declared.status.Status.TheVariants as status
use Rattle.elan_run.specs.Verdict.{AreAccepted, IsRead, input_of, IsVerdict, IsReport, IsReportFor, StandsFor, NeedsSome, Accepted, text_for}

-- ---- what a run met and left

-- What a source has left before a run and past it, where it tells that, and its counts of faults.
pub record Reading : Type 0 where
  pub left : Option (List ℕ)
  pub past : Option (List ℕ)
  pub faults : ℕ
  pub faults_after : ℕ

abbrev pub read : Option (List ℕ) → Option (List ℕ) → ℕ → ℕ → Reading
read left past faults faults_after =
    record { left = left; past = past; faults = faults; faults_after = faults_after }

-- What a sink holds before a run and after it, where it tells that, and its counts of faults.
pub record Writing : Type 0 where
  pub before : Option (List ℕ)
  pub after : Option (List ℕ)
  pub faults : ℕ
  pub faults_after : ℕ

abbrev pub wrote : Option (List ℕ) → Option (List ℕ) → ℕ → ℕ → Writing
wrote before after faults faults_after =
    record { before = before; after = after; faults = faults; faults_after = faults_after }

-- the source's count of faults rose
abbrev pub ReadFailed : Reading → Type 0
ReadFailed r = Rose r.faults r.faults_after

-- a loader's count of faults rose
abbrev pub LoadFailed : Shelf → Shelf → Type 0
LoadFailed s t = SomeRose s.failures t.failures

-- the sink's count of faults rose
abbrev pub WriteFailed : Writing → Type 0
WriteFailed w = Rose w.faults w.faults_after

-- ---- what is written

-- these are the bytes that a source has left, where it tells that
abbrev pub Told : Option (List ℕ) → List ℕ → Type 0
Told None bytes = Unit {0}
Told (Some left) bytes = left ≡ bytes

-- these are the bytes that a source has left, where it is read and tells that; where it is not read, any will do
abbrev pub MayFeedWith : Option ℕ → Option (List ℕ) → List ℕ → Type 0
MayFeedWith None left bytes = Told left bytes
MayFeedWith (Some number) left bytes = Unit {0}

abbrev pub MayFeed : Option Options → Option (List ℕ) → List ℕ → Type 0
MayFeed None left bytes = Unit {0}
MayFeed (Some o) left bytes = MayFeedWith o.demo left bytes

-- a source tells that these are the bytes that it has left, or it is not read
abbrev pub FeedsWith : Option ℕ → Option (List ℕ) → List ℕ → Type 0
FeedsWith None left bytes = left ≡ Some bytes
FeedsWith (Some number) left bytes = Unit {0}

abbrev pub Feeds : Option Options → Option (List ℕ) → List ℕ → Type 0
Feeds None left bytes = Unit {0}
Feeds (Some o) left bytes = FeedsWith o.demo left bytes

-- the whole text for the words and the input was written, and this is the answer to them
pub record Answers (chosen : Option Options) (left : Option (List ℕ)) (told : List (Option Texts))
    (before after : Option (List ℕ)) (answer : Status) : Type 0 where
  pub bytes : List ℕ
  pub text : List ℕ
  pub is_left : MayFeed chosen left bytes
  pub report : IsReportFor chosen told (input_of chosen bytes) text answer
  pub written : Appends before text after

-- a prefix of the text for the words and the input was written that is not all of it
pub record BreaksOff (chosen : Option Options) (left : Option (List ℕ)) (told : List (Option Texts))
    (before after : Option (List ℕ)) : Type 0 where
  pub bytes : List ℕ
  pub text : List ℕ
  pub answer : Status
  pub is_left : MayFeed chosen left bytes
  pub report : IsReportFor chosen told (input_of chosen bytes) text answer
  pub written : AppendsPart before text after

-- the input needs loaders
pub record Needed (chosen : Option Options) (left : Option (List ℕ)) : Type 0 where
  pub bytes : List ℕ
  pub is_left : MayFeed chosen left bytes
  pub needs : NeedsSome (input_of chosen bytes)

-- the status is this one and the whole text was written, or memory was wanted and nothing was written
abbrev pub Completes : Status → List ℕ → Option (List ℕ) → Option (List ℕ) → Status → Type 0
Completes answer text before after result =
    ((result ≡ answer) × Appends before text after) ⊎ ((result ≡ status.NoMemory) × (after ≡ before))

-- A run with this text that met no fault and was refused no memory has written exactly the text. Any other run has
-- written a prefix of it.
pub record Headline (text : List ℕ) (before after : Option (List ℕ)) (Failed : Type 0) (result : Status) : Type 0 where
  pub exact : (Failed → ⊥) → (result ≡ status.NoMemory → ⊥) → (result ≡ status.Done) × Appends before text after
  pub prefix : (part : List ℕ) × (rest : List ℕ) × (text ≡ part ++ rest) × Appends before part after

-- the whole text was written and this is the answer, or a prefix of it was and the sink has failed
abbrev pub Sends : List ℕ → Status → Writing → Status → Type 0
Sends text answer w result =
    ((result ≡ answer) × Appends w.before text w.after)
    ⊎ ((result ≡ status.WriteFault) × WriteFailed w × AppendsPart w.before text w.after)

-- the status of a run that has no answer
abbrev pub status_without : Unanswered → Status
status_without unanswered.LoaderFault = status.LoaderFault
status_without unanswered.NoMemory = status.NoMemory

-- what was made is sent; or there was no answer, and nothing was written
abbrev pub Finishes : Writing → Result Answer Unanswered → Status → Type 0
Finishes w (Ok made) result = Sends made.text.items made.status w result
Finishes w (Err why) result = (result ≡ status_without why) × (w.after ≡ w.before)

-- why there is no answer: a loader failed and the stream needs loaders, or memory was wanted
abbrev pub IsWhy : List ℕ → Shelf → Shelf → Unanswered → Type 0
IsWhy bytes s t unanswered.LoaderFault = LoadFailed s t × NeedsSome bytes
IsWhy bytes s t unanswered.NoMemory = Unit {0}

-- ---- a whole run, for what its words choose

module _ (chosen : Option Options) (r : Reading) (s t : Shelf) (w : Writing) where
  -- What a run leaves, by its status: for `Done`, `Usage` and `Refused` the whole text that goes with it, for its words and
  -- its input; for a fault its cause; and for a fault of the source, a fault of a loader and want of memory nothing is
  -- written. `Usage` is the answer to words that are refused, and only words that are accepted have a run read the source
  -- or ask the loaders.
  abbrev pub Leaves : Status → Type 0
  Leaves status.Done = Answers chosen r.left s.told w.before w.after status.Done × (IsRead chosen → IsAtEnd r.past)
  Leaves status.Usage = (chosen ≡ None) × Answers chosen r.left s.told w.before w.after status.Usage
  Leaves (status.Refused code) = Answers chosen r.left s.told w.before w.after (status.Refused code)
  Leaves status.ReadFault = IsRead chosen × ReadFailed r × (w.after ≡ w.before)
  Leaves status.WriteFault = WriteFailed w × BreaksOff chosen r.left s.told w.before w.after
  Leaves status.LoaderFault = AreAccepted chosen × LoadFailed s t × Needed chosen r.left × (w.after ≡ w.before)
  Leaves status.NoMemory = AreAccepted chosen × (w.after ≡ w.before)

  -- Where the input is accepted, over a library that may be taken for the loaders, a run that met no fault and was refused
  -- no memory wrote exactly its report, and any other run wrote a prefix of it. For an input that is generated the summary
  -- stands in place of the report.
  abbrev pub MeetsHeadline : Status → Type 0
  MeetsHeadline result =
      (bytes : List ℕ) (library : Library) (o : Options) (p : Prepared) → Feeds chosen r.left bytes
      → StandsFor s.told (input_of chosen bytes) library → IsVerdict chosen library (input_of chosen bytes) (Accepted o p)
      → Headline (text_for (Accepted o p)) w.before w.after (ReadFailed r ⊎ (LoadFailed s t ⊎ WriteFailed w)) result

  -- For all words and every input, over a library that may be taken for the loaders: where no count of faults rose, the whole
  -- text was written and the status is that of words and input, or memory was wanted and nothing was written.
  abbrev pub IsComplete : Status → Type 0
  IsComplete result =
      (bytes : List ℕ) (library : Library) (text : List ℕ) (answer : Status) → Feeds chosen r.left bytes
      → StandsFor s.told (input_of chosen bytes) library → IsReport chosen library (input_of chosen bytes) text answer
      → (ReadFailed r → ⊥) → (LoadFailed s t → ⊥) → (WriteFailed w → ⊥) → Completes answer text w.before w.after result
