-- What a run leaves tells the cause of its answer.
use Rattle.std.proofs.Common.{◌≡◌, ◌⊎◌, inl, inr, ℕ, List, [], ◌++◌, append-nil, Option, Some, None, refl, sym, ◌∙◌, ap, subst}
use Rattle.elan_text.specs.Streams.{Appends}
use Rattle.elan_text.specs.Whole.{AppendsPart}
use Rattle.elan_loaders.specs.Libraries.{Library as Texts}
use Rattle.elan_modules.specs.Visits.{Library}
use Rattle.elan_modules.specs.Walks.{Shelf, Moved}
use Rattle.elan_check.specs.declared.prepared.Prepared.{Prepared}
use Rattle.elan_cli.specs.declared.given.Options.{Options}
use Rattle.elan_run.specs.declared.status.Status.{Status}
use Rattle.elan_run.specs.declared.status.Status.TheVariants as status
use Rattle.elan_run.specs.Verdict.{AreAccepted, IsRead, input_with, input_of, Verdict, Misused, TooLong, BadToken, BadOutline, BadProgram, Accepted, IsVerdict, IsSilent, IsReport, IsReportFor, StandsFor, text_for, status_for}
use Rattle.elan_run.specs.Runs.{Reading, Writing, ReadFailed, LoadFailed, WriteFailed, Told, MayFeedWith, MayFeed, FeedsWith, Feeds, Answers, BreaksOff, Completes, Headline, Leaves}
use Rattle.elan_run.proofs.Verdicts.{one_report, told_once}

-- nothing was written
pub appends_nothing : (before : Option (List ℕ)) → Appends before [] before
appends_nothing None = refl
appends_nothing (Some bytes) = ap Some (sym (append-nil bytes))

-- what a source told that it has left is what it has left
pub told_is : (left : Option (List ℕ)) (bytes other : List ℕ) → Told left other → left ≡ Some bytes → bytes ≡ other
told_is None bytes other told is = cc
told_is (Some left) bytes other told is = some_is left bytes is ∙ told
  where
    some_is : (xs ys : List ℕ) → Some xs ≡ Some ys → ys ≡ xs
    some_is xs ys e = cc

-- what a source may feed a run with is what it feeds it with
same_input_with : (demo : Option ℕ) (left : Option (List ℕ)) (bytes other : List ℕ) → FeedsWith demo left bytes → MayFeedWith demo left other
    → input_with demo bytes ≡ input_with demo other
same_input_with None left bytes other is may = told_is left bytes other may is
same_input_with (Some number) left bytes other is may = refl

-- a report for the loaders is the one over a library that may be taken for them
one_for : (chosen : Option Options) (told : List (Option Texts)) (input : List ℕ) (library : Library) (text written : List ℕ) (answer result : Status)
    → StandsFor told input library → IsReport chosen library input text answer → IsReportFor chosen told input written result
    → (text ≡ written) × (answer ≡ result)
one_for chosen told input library text written answer result stands report found = go (found.applies library stands)
  where
    go : IsVerdict chosen library input found.verdict ⊎ IsSilent chosen library input → (text ≡ written) × (answer ≡ result)
    go (inl applies) =
        one_report chosen library input text written answer result report
        (record { verdict = found.verdict; applies = applies; says = found.says })
    go (inr silent) = absurd (told_once chosen library input report.verdict report.applies silent)

-- words that are refused have one verdict, whatever the input is
refused_is : (library : Library) (input : List ℕ) (v : Verdict) → IsVerdict None library input v → v ≡ Misused
refused_is library input Misused applies = refl
refused_is library input TooLong applies = absurd applies.0
refused_is library input (BadToken code at) applies = absurd applies.0
refused_is library input (BadOutline code at) applies = absurd applies.0
refused_is library input (BadProgram refusal) applies = absurd applies.0
refused_is library input (Accepted o p) applies = no_options applies.0
  where
    no_options : {X : Type 0} → None ≡ Some o → X
    no_options e = absurd cc

-- two reports on what a source had left are one
same_report : (chosen : Option Options) (left : Option (List ℕ)) (told : List (Option Texts)) (bytes other : List ℕ) (library : Library)
    (text written : List ℕ) (answer result : Status) → Feeds chosen left bytes → MayFeed chosen left other
    → StandsFor told (input_of chosen bytes) library
    → IsReport chosen library (input_of chosen bytes) text answer → IsReportFor chosen told (input_of chosen other) written result
    → (text ≡ written) × (answer ≡ result)
same_report None left told bytes other library text written answer result is is_left stands report found =
    let same : report.verdict ≡ found.verdict =
    refused_is library bytes report.verdict report.applies
    ∙ sym (refused_is found.answered.0 other found.verdict found.answered.2) in (
      report.says.text_is ∙ ap text_for same ∙ sym found.says.text_is,
      report.says.answer_is ∙ ap status_for same ∙ sym found.says.answer_is,
    )
same_report (Some o) left told bytes other library text written answer result is is_left stands report found =
    let P : List ℕ → Type 0 = λ bs. IsReportFor (Some o) told bs written result in
    one_for (Some o) told (input_with o.demo bytes) library text written answer result stands report
    (subst P (sym (same_input_with o.demo left bytes other is is_left)) found)

module _ (chosen : Option Options) (r : Reading) (s t : Shelf) (w : Writing) where
  -- where nothing failed, the whole text is written or memory was wanted
  module _ (bytes : List ℕ) (library : Library) (text : List ℕ) (answer : Status) (is : Feeds chosen r.left bytes)
      (stands : StandsFor s.told (input_of chosen bytes) library) (report : IsReport chosen library (input_of chosen bytes) text answer) where
    the_same : (result : Status) (a : Answers chosen r.left s.told w.before w.after result) → (text ≡ a.text) × (answer ≡ result)
    the_same result a = same_report chosen r.left s.told bytes a.bytes library text a.text answer result is a.is_left stands report a.report

    whole : (result : Status) → Answers chosen r.left s.told w.before w.after result → Appends w.before text w.after
    whole result a =
        let P : List ℕ → Type 0 = λ u. Appends w.before u w.after in
        subst P (sym (the_same result a).0) a.written

    answered : (result : Status) → Answers chosen r.left s.told w.before w.after result → Completes answer text w.before w.after result
    answered result a = inl (sym (the_same result a).1, whole result a)

    pub completes : (result : Status) → Leaves chosen r s t w result
        → (ReadFailed r → ⊥) → (LoadFailed s t → ⊥) → (WriteFailed w → ⊥) → Completes answer text w.before w.after result
    completes status.Done l read load write = answered status.Done l.0
    completes status.Usage l read load write = answered status.Usage l.1
    completes (status.Refused code) l read load write = answered (status.Refused code) l
    completes status.ReadFault l read load write = absurd (read l.1)
    completes status.WriteFault l read load write = absurd (write l.0)
    completes status.LoaderFault l read load write = absurd (load l.1)
    completes status.NoMemory l read load write = inr (refl, l.1)

    -- in any case a prefix of it is written
    abbrev Begun : Type 0
    Begun = (part : List ℕ) × (rest : List ℕ) × (text ≡ part ++ rest) × Appends w.before part w.after

    begun_part : AppendsPart w.before text w.after → Begun
    begun_part p = (p.0, p.1, p.2, p.4)

    nothing_written : w.after ≡ w.before → Begun
    nothing_written same =
        let P : Option (List ℕ) → Type 0 = λ a. Appends w.before [] a in
        ([], text, refl, subst P (sym same) (appends_nothing w.before))

    all_written : Appends w.before text w.after → Begun
    all_written written = (text, [], sym (append-nil text), written)

    broken : BreaksOff chosen r.left s.told w.before w.after → Begun
    broken b =
        let same = same_report chosen r.left s.told bytes b.bytes library text b.text answer b.answer is b.is_left stands report b.report in
        let P : List ℕ → Type 0 = λ u. AppendsPart w.before u w.after in
        begun_part (subst P (sym same.0) b.written)

    pub prefix_of : (result : Status) → Leaves chosen r s t w result → Begun
    prefix_of status.Done l = all_written (whole status.Done l.0)
    prefix_of status.Usage l = all_written (whole status.Usage l.1)
    prefix_of (status.Refused code) l = all_written (whole (status.Refused code) l)
    prefix_of status.ReadFault l = nothing_written l.2
    prefix_of status.WriteFault l = broken l.1
    prefix_of status.LoaderFault l = nothing_written l.3
    prefix_of status.NoMemory l = nothing_written l.1

  -- what is accepted
  pub headline : (bytes : List ℕ) (library : Library) (o : Options) (p : Prepared) (result : Status) → Feeds chosen r.left bytes
      → StandsFor s.told (input_of chosen bytes) library → IsVerdict chosen library (input_of chosen bytes) (Accepted o p) → Leaves chosen r s t w result
      → Headline (text_for (Accepted o p)) w.before w.after (ReadFailed r ⊎ (LoadFailed s t ⊎ WriteFailed w)) result
  headline bytes library o p result is stands accepted leaves =
      let report : IsReport chosen library (input_of chosen bytes) (text_for (Accepted o p)) status.Done =
      record { verdict = Accepted o p; applies = accepted; says = record { text_is = refl; answer_is = refl } } in
      record {
        exact = λ no_fault memory. done_of (completes bytes library (text_for (Accepted o p)) status.Done is stands report result leaves
            (λ read. no_fault (inl read)) (λ load. no_fault (inr (inl load))) (λ write. no_fault (inr (inr write)))) memory;
        prefix = prefix_of bytes library (text_for (Accepted o p)) status.Done is stands report result leaves;
      }
    where
      done_of : Completes status.Done (text_for (Accepted o p)) w.before w.after result → (result ≡ status.NoMemory → ⊥)
          → (result ≡ status.Done) × Appends w.before (text_for (Accepted o p)) w.after
      done_of (inl both) memory = both
      done_of (inr wanted) memory = absurd (memory wanted.0)

  -- words that are refused are answered by the usage line alone
  used : (c : Option Options) (result : Status) → c ≡ None → Answers c r.left s.told w.before w.after result → result ≡ status.Usage
  used None result none a =
      a.report.says.answer_is ∙ ap status_for (refused_is a.report.answered.0 a.bytes a.report.verdict a.report.answered.2)
  used (Some o) result none a = absurd cc

  unread : {X : Type 0} (c : Option Options) → c ≡ None → IsRead c → X
  unread None none reads = absurd reads
  unread (Some o) none reads = absurd cc

  unaccepted : {X : Type 0} (c : Option Options) → c ≡ None → AreAccepted c → X
  unaccepted None none accepted = absurd accepted
  unaccepted (Some o) none accepted = absurd cc

  pub words_leave : (result : Status) → Leaves chosen r s t w result → chosen ≡ None
      → (result ≡ status.Usage) ⊎ (result ≡ status.WriteFault)
  words_leave status.Usage l none = inl refl
  words_leave status.WriteFault l none = inr refl
  words_leave status.ReadFault l none = unread chosen none l.0
  words_leave status.LoaderFault l none = unaccepted chosen none l.0
  words_leave status.NoMemory l none = unaccepted chosen none l.0
  words_leave status.Done l none = inl (used chosen status.Done none l.0)
  words_leave (status.Refused code) l none = inl (used chosen (status.Refused code) none l)

-- ---- the same of loaders that moved so

module _ (chosen : Option Options) (r : Reading) (s t : Shelf) (w : Writing) (moved : Moved s t) (result : Status) (leaves : Leaves chosen r s t w result) where
  pub headline_of : (bytes : List ℕ) (library : Library) (o : Options) (p : Prepared) → Feeds chosen r.left bytes
      → StandsFor s.told (input_of chosen bytes) library → IsVerdict chosen library (input_of chosen bytes) (Accepted o p)
      → Headline (text_for (Accepted o p)) w.before w.after (ReadFailed r ⊎ (LoadFailed s t ⊎ WriteFailed w)) result
  headline_of bytes library o p is stands accepted = headline chosen r s t w bytes library o p result is stands accepted leaves

  pub completes_of : (bytes : List ℕ) (library : Library) (text : List ℕ) (answer : Status) → Feeds chosen r.left bytes
      → StandsFor s.told (input_of chosen bytes) library → IsReport chosen library (input_of chosen bytes) text answer
      → (ReadFailed r → ⊥) → (LoadFailed s t → ⊥) → (WriteFailed w → ⊥) → Completes answer text w.before w.after result
  completes_of bytes library text answer is stands report read load write =
      completes chosen r s t w bytes library text answer is stands report result leaves read load write

  pub words_of : chosen ≡ None → (result ≡ status.Usage) ⊎ (result ≡ status.WriteFault)
  words_of none = words_leave chosen r s t w result leaves none
