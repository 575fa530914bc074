-- What a run leaves follows from what it read, what was answered and what it sent.
use Rattle.std.proofs.Common.{◌≡◌, ◌<◌, inl, inr, ℕ, true, cond, is_some, List, [], ◌++◌, length, length-append, append-nil, Option, Some, None, Result, Ok, Err, IfOk, IfErr, refl, sym, ◌∙◌, ap, subst, arith}
use Rattle.elan_text.specs.Streams.{IsAtEnd}
use Rattle.elan_text.specs.Whole.{Drained, PastMost}
use Rattle.elan_loaders.specs.Libraries.{Library as Texts}
use Rattle.elan_modules.specs.Visits.{Library}
use Rattle.elan_modules.specs.Walks.{Shelf, Moved, nothing}
use Rattle.elan_cli.specs.declared.given.Options.{Options}
use Rattle.elan_run.specs.declared.answer.Answer.{Answer}
use Rattle.elan_run.specs.declared.answer.Unanswered.{Unanswered}
use Rattle.elan_run.specs.declared.answer.Unanswered.TheVariants as unanswered
use Rattle.elan_run.specs.declared.status.Status.{Status}
use Rattle.elan_run.specs.declared.status.Status.TheVariants as status
use Rattle.elan_cli.specs.Line.{first_mistake, options_of, refusal_of, read as spec_read}
use Rattle.elan_cli.specs.Words.{Word}
use Rattle.elan_cli.specs.declared.fault.WordsRefusal.{WordsRefusal}
use Rattle.elan_demo.specs.Demo.{demo_input}
use Rattle.elan_run.specs.Lines.{usage_line}
use Rattle.elan_run.specs.Verdict.{chosen_by, AreAccepted, IsRead, IsReadWith, input_with, input_of, most_bytes, NeedsNone, NeedsSome, Verdict, Misused, TooLong, BadToken, BadOutline, BadProgram, Accepted, IsVerdict, IsReportFor, Says, status_for}
use Rattle.elan_run.specs.Runs.{Reading, Writing, Told, MayFeedWith, MayFeed, FeedsWith, Feeds, Answers, BreaksOff, Sends, Finishes, IsWhy, Leaves}
use Rattle.elan_run.proofs.Causes.{told_is}

-- what was read to the end is what the source had left
pub drained_told : (left past : Option (List ℕ)) (bytes : List ℕ) → Drained left bytes past → Told left bytes
drained_told left None bytes d =
    let P : Option (List ℕ) → Type 0 = λ l. Told l bytes in
    subst P (sym d.consumed) tt
drained_told left (Some rest) bytes d =
    let P : Option (List ℕ) → Type 0 = λ l. Told l bytes in
    subst P (sym d.consumed) (ap (λ r. bytes ++ r) d.at_end ∙ append-nil bytes)

-- a source that is past more bytes than that had more left
pub past_told : (most : ℕ) (left past : Option (List ℕ)) → PastMost most left past → (bytes : List ℕ) × Told left bytes × (most < length bytes)
past_told most left None h =
    let P : Option (List ℕ) → Type 0 = λ l. Told l h.0 in
    (h.0, subst P (sym h.1) tt, h.2)
past_told most left (Some rest) h =
    let P : Option (List ℕ) → Type 0 = λ l. Told l (h.0 ++ rest) in
    (h.0 ++ rest, subst P (sym h.1) refl, rw (length-append h.0 rest) (omega (arith, h.2)))

-- where the source is read, what it has left is the input
as_read : (P : List ℕ → Type 0) (demo : Option ℕ) (bytes : List ℕ) → demo ≡ None → P bytes → P (input_with demo bytes)
as_read P None bytes is p = p
as_read P (Some number) bytes is p = absurd cc

fed : (demo : Option ℕ) (left : Option (List ℕ)) (bytes : List ℕ) → demo ≡ None → Told left bytes → MayFeedWith demo left bytes
fed None left bytes is told = told
fed (Some number) left bytes is told = absurd cc

is_read : (demo : Option ℕ) → demo ≡ None → IsReadWith demo
is_read None is = tt
is_read (Some number) is = absurd cc

-- where the input is generated, the source may have anything left
as_generated : (P : List ℕ → Type 0) (demo : Option ℕ) (number : ℕ) (bytes : List ℕ) → demo ≡ Some number → P (demo_input number)
    → P (input_with demo bytes)
as_generated P None number bytes is p = absurd cc
as_generated P (Some other) number bytes is p =
    let same : number ≡ other = cc in
    subst (λ n. P (demo_input n)) same p

fed_nothing : (demo : Option ℕ) (number : ℕ) (left : Option (List ℕ)) (bytes : List ℕ) → demo ≡ Some number → MayFeedWith demo left bytes
fed_nothing None number left bytes is = absurd cc
fed_nothing (Some other) number left bytes is = tt

not_read : {X : Type 0} (demo : Option ℕ) (number : ℕ) → demo ≡ Some number → IsReadWith demo → X
not_read None number is read = absurd cc
not_read (Some other) number is read = absurd read

-- words that are accepted are not misused
not_misused : (o : Options) (library : Library) (input : List ℕ) (v : Verdict) → IsVerdict (Some o) library input v
    → status_for v ≡ status.Usage → ⊥
not_misused o library input Misused applies e = no_options applies
  where
    no_options : Some o ≡ None → ⊥
    no_options a = cc
not_misused o library input TooLong applies e = cc
not_misused o library input (BadToken code at) applies e = cc
not_misused o library input (BadOutline code at) applies e = cc
not_misused o library input (BadProgram refusal) applies e = cc
not_misused o library input (Accepted q p) applies e = cc

module _ (chosen : Option Options) (r : Reading) (s t : Shelf) (w : Writing) where
  -- an answer of a verdict is left as such; only words that are refused are answered by the usage line
  leaves_answer : (v : Verdict) → Answers chosen r.left s.told w.before w.after (status_for v)
      → (status_for v ≡ status.Usage → chosen ≡ None) → (status_for v ≡ status.Done → IsRead chosen → IsAtEnd r.past)
      → Leaves chosen r s t w (status_for v)
  leaves_answer Misused a misused end = (misused refl, a)
  leaves_answer TooLong a misused end = a
  leaves_answer (BadToken code at) a misused end = a
  leaves_answer (BadOutline code at) a misused end = a
  leaves_answer (BadProgram refusal) a misused end = a
  leaves_answer (Accepted o p) a misused end = (a, end refl)

  -- the text and the status of a report were sent
  pub leaves_sent : (bytes text : List ℕ) (answer result : Status) → MayFeed chosen r.left bytes
      → IsReportFor chosen s.told (input_of chosen bytes) text answer
      → (answer ≡ status.Usage → chosen ≡ None) → (answer ≡ status.Done → IsRead chosen → IsAtEnd r.past)
      → Sends text answer w result → Leaves chosen r s t w result
  leaves_sent bytes text answer result fed report misused end (inl sent) =
      let P : Status → Type 0 = Leaves chosen r s t w in
      let Q : Status → Type 0 = Answers chosen r.left s.told w.before w.after in
      let is : answer ≡ status_for report.verdict = report.says.answer_is in
      let a : Answers chosen r.left s.told w.before w.after answer =
      record { bytes = bytes; text = text; is_left = fed; report = report; written = sent.1 } in
      subst P (sym is ∙ sym sent.0)
      (leaves_answer report.verdict (subst Q is a) (λ e. misused (is ∙ e)) (λ e. end (is ∙ e)))
  leaves_sent bytes text answer result fed report misused end (inr broken) =
      let P : Status → Type 0 = Leaves chosen r s t w in
      let b : BreaksOff chosen r.left s.told w.before w.after =
      record { bytes = bytes; text = text; answer = answer; is_left = fed; report = report; written = broken.2 } in
      subst P (sym broken.0) (broken.1, b)

module _ (o : Options) (r : Reading) (s t : Shelf) (w : Writing) where
  -- what was made for an input was finished
  leaves_finished : (bytes : List ℕ) (made : Result Answer Unanswered) (result : Status) → MayFeedWith o.demo r.left bytes
      → IfOk made (λ a. IsReportFor (Some o) s.told (input_with o.demo bytes) a.text.items a.status)
      → IfErr made (λ e. IsWhy (input_with o.demo bytes) s t e)
      → IfOk made (λ a. a.status ≡ status.Done → IsReadWith o.demo → IsAtEnd r.past) → Finishes w made result
      → Leaves (Some o) r s t w result
  leaves_finished bytes (Ok a) result fed report why end sent =
      let no : a.status ≡ status.Usage → ⊥ = λ e.
      not_misused o report.answered.0 (input_with o.demo bytes) report.verdict report.answered.2 (sym report.says.answer_is ∙ e) in
      leaves_sent (Some o) r s t w bytes a.text.items a.status result fed report (λ e. absurd (no e)) end sent
  leaves_finished bytes (Err unanswered.LoaderFault) result fed report why end sent =
      let P : Status → Type 0 = Leaves (Some o) r s t w in
      subst P (sym sent.0) (tt, why.0, record { bytes = bytes; is_left = fed; needs = why.1 }, sent.1)
  leaves_finished bytes (Err unanswered.NoMemory) result fed report why end sent =
      let P : Status → Type 0 = Leaves (Some o) r s t w in
      subst P (sym sent.0) (tt, sent.1)

-- for loaders that moved so
module _ (o : Options) (r : Reading) (s t : Shelf) (w : Writing) (moved : Moved s t) where
  abbrev Made : Type 0
  Made = Result Answer Unanswered

  abbrev Reported : List ℕ → Made → Type 0
  Reported input made = IfOk made (λ a. IsReportFor (Some o) s.told input a.text.items a.status)

  abbrev Explained : List ℕ → Made → Type 0
  Explained input made = IfErr made (λ e. IsWhy input s t e)

  -- the input was what the source had left
  pub read_leaves : (bytes : List ℕ) (made : Made) (result : Status) → o.demo ≡ None → Told r.left bytes
      → Reported bytes made → Explained bytes made → IfOk made (λ a. a.status ≡ status.Done → IsAtEnd r.past)
      → Finishes w made result → Leaves (Some o) r s t w result
  read_leaves bytes made result is told report why end sent =
      leaves_finished o r s t w bytes made result (fed o.demo r.left bytes is told)
      (as_read (λ input. Reported input made) o.demo bytes is report)
      (as_read (λ input. Explained input made) o.demo bytes is why)
      (ended made end) sent
    where
      ended : (made : Made) → IfOk made (λ a. a.status ≡ status.Done → IsAtEnd r.past)
          → IfOk made (λ a. a.status ≡ status.Done → IsReadWith o.demo → IsAtEnd r.past)
      ended (Ok a) end = λ e read. end e
      ended (Err e) end = tt

  -- the input was generated
  pub generated_leaves : (number : ℕ) (made : Made) (result : Status) → o.demo ≡ Some number
      → Reported (demo_input number) made → Explained (demo_input number) made
      → Finishes w made result → Leaves (Some o) r s t w result
  generated_leaves number made result is report why sent =
      leaves_finished o r s t w [] made result (fed_nothing o.demo number r.left [] is)
      (as_generated (λ input. Reported input made) o.demo number [] is report)
      (as_generated (λ input. Explained input made) o.demo number [] is why)
      (ended made) sent
    where
      ended : (made : Made) → IfOk made (λ a. a.status ≡ status.Done → IsReadWith o.demo → IsAtEnd r.past)
      ended (Ok a) = λ e read. not_read o.demo number is read
      ended (Err e) = tt

-- what was made for an input that is too long is its report
pub too_long_reported : (o : Options) (told : List (Option Texts)) (bytes : List ℕ) (made : Result Answer Unanswered)
    → most_bytes < length bytes → IfOk made (λ a. Says TooLong a.text.items a.status)
    → IfOk made (λ a. IsReportFor (Some o) told bytes a.text.items a.status)
too_long_reported o told bytes (Ok a) long says =
    record {
      verdict = TooLong;
      says = says;
      applies = λ library stands. inl (tt, long);
      answered = (nothing, λ name. tt, (tt, long));
    }
too_long_reported o told bytes (Err e) long says = tt

-- and for want of memory nothing was made
pub too_long_why : (bytes : List ℕ) (s t : Shelf) → Moved s t → (made : Result Answer Unanswered) → IfErr made (λ e. e ≡ unanswered.NoMemory)
    → IfErr made (λ e. IsWhy bytes s t e)
too_long_why bytes s t moved (Ok a) is = tt
too_long_why bytes s t moved (Err e) is = subst (IsWhy bytes s t) (sym is) tt

-- and is not done
pub too_long_undone : (X : Type 0) (made : Result Answer Unanswered) → IfOk made (λ a. Says TooLong a.text.items a.status)
    → IfOk made (λ a. a.status ≡ status.Done → X)
too_long_undone X (Ok a) says = λ e. absurd (refused_undone a.status says.answer_is e)
  where
    refused_undone : (s : Status) → s ≡ status_for TooLong → s ≡ status.Done → ⊥
    refused_undone s a b = cc
too_long_undone X (Err e) says = tt

-- what holds anyway holds of what was made
pub if_made : {E X : Type 0} (made : Result Answer E) → X → IfOk made (λ a. a.status ≡ status.Done → X)
if_made (Ok a) x = λ e. x
if_made (Err e) x = tt

-- the usage line was sent for words that are refused
usage_reported : (chosen : Option Options) (told : List (Option Texts)) (input : List ℕ) → chosen ≡ None
    → IsReportFor chosen told input usage_line status.Usage
usage_reported chosen told input none = record {
  verdict = Misused;
  says = record { text_is = refl; answer_is = refl };
  applies = λ library stands. inl none;
  answered = (nothing, λ name. tt, none);
}

fed_refused : (chosen : Option Options) (left : Option (List ℕ)) (bytes : List ℕ) → chosen ≡ None → MayFeed chosen left bytes
fed_refused None left bytes none = tt
fed_refused (Some o) left bytes none = absurd cc

pub usage_leaves : (chosen : Option Options) (r : Reading) (s t : Shelf) (w : Writing) → Moved s t → (result : Status) → chosen ≡ None
    → Sends usage_line status.Usage w result → Leaves chosen r s t w result
usage_leaves chosen r s t w moved result none sent =
    leaves_sent chosen r s t w [] usage_line status.Usage result (fed_refused chosen r.left [] none)
    (usage_reported chosen s.told (input_of chosen []) none) (λ e. none) (λ e. absurd (clash e)) sent
  where
    clash : status.Usage ≡ status.Done → ⊥
    clash e = cc

-- ---- loaders of a run

-- what was read is what the source told that it has left
pub untouched_read : {X : Type 0} (demo : Option ℕ) (left past : Option (List ℕ)) (found bytes slice : List ℕ) → demo ≡ None
    → Drained left found past → slice ≡ found → (NeedsNone slice → X) → FeedsWith demo left bytes → NeedsNone (input_with demo bytes) → X
untouched_read None left past found bytes slice unread drained same more is none =
    more (subst NeedsNone (told_is left bytes found (drained_told left past found drained) is ∙ sym same) none)
untouched_read (Some number) left past found bytes slice unread drained same more is none = absurd cc

pub untouched_generated : {X : Type 0} (demo : Option ℕ) (number : ℕ) (bytes : List ℕ) → demo ≡ Some number
    → (NeedsNone (demo_input number) → X) → NeedsNone (input_with demo bytes) → X
untouched_generated None number bytes is more none = absurd cc
untouched_generated (Some other) number bytes is more none =
    let same : other ≡ number = cc in
    more (subst (λ n. NeedsNone (demo_input n)) same none)

-- ---- words that choose options

module _ (chosen : Option Options) (o : Options) (is : chosen ≡ Some o) where
  pub chosen_leaves : (r : Reading) (s t : Shelf) (w : Writing) → Moved s t → (result : Status) → Leaves (Some o) r s t w result
      → Leaves chosen r s t w result
  chosen_leaves r s t w moved result leaves = subst (λ c. Leaves c r s t w result) (sym is) leaves

  pub chosen_untouched : {X : Type 0} (left : Option (List ℕ))
      → ((bytes : List ℕ) → Feeds (Some o) left bytes → NeedsNone (input_of (Some o) bytes) → X)
      → (bytes : List ℕ) → Feeds chosen left bytes → NeedsNone (input_of chosen bytes) → X
  chosen_untouched left more bytes feeds none =
      more bytes (subst (λ c. Feeds c left bytes) is feeds) (subst (λ c. NeedsNone (input_of c bytes)) is none)

  pub chosen_unread : {X : Type 0} → ((IsRead (Some o) → ⊥) → X) → (IsRead chosen → ⊥) → X
  chosen_unread more unread = more (λ read. unread (subst IsRead (sym is) read))

-- words that are not refused are accepted
pub words_accepted : (words : List Word) → refusal_of true words ≡ None → AreAccepted (chosen_by words)
unfolding refusal_of options_of
words_accepted words none = go (first_mistake true [] words) none
  where
    go : (x : Option WordsRefusal) → x ≡ None → AreAccepted (cond (is_some x) None (Some (spec_read true words)))
    go None e = tt
    go (Some refusal) e = absurd cc
