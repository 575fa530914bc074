-- Words and an input have one verdict, and so one report.
use Rattle.std.proofs.Common.{◌≡◌, ◌<◌, ◌≤◌, ℕ, List, Option, Some, None, Result, Ok, Err, length, refl, sym, ◌∙◌, ap, ap₂, subst, arith}
use Rattle.elan_text.specs.declared.refusal.Code.{Code}
use Rattle.elan_text.specs.declared.refusal.Place.{Place}
use Rattle.elan_text.specs.declared.refusal.Refusal.{Refusal}
use Rattle.elan_lexer.specs.declared.token.Token.{Token}
use Rattle.elan_lexer.proofs.Answered.{apart, fits_once, refuses_once}
use Rattle.elan_phrases.specs.Symbols.{seen}
use Rattle.elan_syntax.specs.Grammar.{stream}
use Rattle.elan_syntax.specs.Outlines.{IsOutline, Refuses as RefusesOutline}
use Rattle.elan_syntax.proofs.ExactStreams.{stream_gives}
use Rattle.elan_syntax.proofs.Whole.{two_values, two_refusals, value_refused}
use Rattle.elan_modules.specs.Visits.{Library, Halted, Refuses, Silent}
use Rattle.elan_check.specs.declared.prepared.Prepared.{Prepared}
use Rattle.elan_cli.specs.declared.given.Options.{Options}
use Rattle.elan_run.specs.declared.status.Status.{Status}
use Rattle.elan_run.specs.Verdict.{AreAccepted, Asks, asked_of, LacksOutline, most_bytes, Verdict, Misused, TooLong, BadToken, BadOutline, BadProgram, Accepted, IsVerdict, IsSilent, IsReport, text_for, status_for}

-- what is asked
abbrev Asked : Type 0
Asked = Result Prepared Halted

abbrev the_program : Prepared → Asked
the_program p = Ok p

abbrev the_error : Halted → Asked
the_error h = Err h

same_program : (p q : Prepared) → the_program p ≡ the_program q → p ≡ q
same_program p q e = cc

same_halted : (h k : Halted) → the_error h ≡ the_error k → h ≡ k
same_halted h k e = cc

same_refusal : (r u : Refusal) → Refuses r ≡ Refuses u → r ≡ u
same_refusal r u e = cc

no_silent : (r : Refusal) → Refuses r ≡ Silent → ⊥
no_silent r e = cc

program_halted : (p : Prepared) (h : Halted) → the_program p ≡ the_error h → ⊥
program_halted p h e = cc

-- a stream asks one thing over a library
asks_once : (library : Library) (bytes : List ℕ) (p q : Result Prepared Halted) → Asks library bytes p → Asks library bytes q → p ≡ q
asks_once library bytes p q a b =
    let tokens : a.0 ≡ b.0 = fits_once bytes a.0 b.0 a.2 b.2 in
    let P : List Token → Type 0 = λ ts. IsOutline (seen bytes ts) a.1 in
    let outlines : a.1 ≡ b.1 = two_values stream stream_gives (seen bytes b.0) a.1 b.1 (subst P tokens a.3) b.3 in
    sym a.4 ∙ ap (λ ts. asked_of library bytes ts a.1) tokens ∙ ap (asked_of library bytes b.0) outlines ∙ b.4

program_once : (library : Library) (bytes : List ℕ) (p q : Prepared) → Asks library bytes (Ok p) → Asks library bytes (Ok q) → p ≡ q
program_once library bytes p q a b = same_program p q (asks_once library bytes (Ok p) (Ok q) a b)

halted_once : (library : Library) (bytes : List ℕ) (h k : Halted) → Asks library bytes (Err h) → Asks library bytes (Err k) → h ≡ k
halted_once library bytes h k a b = same_halted h k (asks_once library bytes (Err h) (Err k) a b)

refusal_once : (library : Library) (bytes : List ℕ) (r u : Refusal)
    → Asks library bytes (Err (Refuses r)) → Asks library bytes (Err (Refuses u)) → r ≡ u
refusal_once library bytes r u a b = same_refusal r u (halted_once library bytes (Refuses r) (Refuses u) a b)

not_both : {X : Type 0} (library : Library) (bytes : List ℕ) (p : Prepared) (halted : Halted)
    → Asks library bytes (Ok p) → Asks library bytes (Err halted) → X
not_both library bytes p halted a b = absurd (program_halted p halted (asks_once library bytes (Ok p) (Err halted) a b))

-- what has an outline does not lack one
asks_lacks : {X : Type 0} (library : Library) (bytes : List ℕ) (p : Result Prepared Halted) (c : Code) (at : Place)
    → Asks library bytes p → LacksOutline bytes c at → X
asks_lacks library bytes p c at a b =
    let tokens : a.0 ≡ b.0 = fits_once bytes a.0 b.0 a.2 b.1 in
    let P : List Token → Type 0 = λ ts. IsOutline (seen bytes ts) a.1 in
    absurd (value_refused stream stream_gives bytes b.0 a.1 c at (subst P tokens a.3) b.2)

-- a text lacks an outline for one reason
lacks_once : (bytes : List ℕ) (c d : Code) (at there : Place) → LacksOutline bytes c at → LacksOutline bytes d there →
    (c ≡ d) × (at ≡ there)
lacks_once bytes c d at there a b =
    let P : List Token → Type 0 = λ ts. RefusesOutline bytes ts c at in
    two_refusals stream stream_gives bytes b.0 c d at there (subst P (fits_once bytes a.0 b.0 a.1 b.1) a.2) b.2

-- words are not both refused and accepted
not_chosen : {X : Type 0} (c : Option Options) → c ≡ None → AreAccepted c → X
not_chosen None refused accepted = absurd accepted
not_chosen (Some o) refused accepted = absurd cc

-- words that choose something are accepted
pub accepted_of : (c : Option Options) (o : Options) → c ≡ Some o → AreAccepted c
accepted_of c o is = subst AreAccepted (sym is) tt

-- words choose one thing
chosen_once : (c : Option Options) (o q : Options) → c ≡ Some o → c ≡ Some q → o ≡ q
chosen_once c o q a b = cc

-- what is too long is not within the limit
not_within : {X : Type 0} (n : ℕ) → most_bytes < n → n ≤ most_bytes → X
not_within n long within = absurd (omega arith)

-- two refusals of a text are one
bad_token_once : (c d : Code) (at there : Place) → (c ≡ d) × (at ≡ there) → BadToken c at ≡ BadToken d there
bad_token_once c d at there e = ap (λ x. BadToken x at) e.0 ∙ ap (BadToken d) e.1

bad_outline_once : (c d : Code) (at there : Place) → (c ≡ d) × (at ≡ there) → BadOutline c at ≡ BadOutline d there
bad_outline_once c d at there e = ap (λ x. BadOutline x at) e.0 ∙ ap (BadOutline d) e.1

-- one verdict applies
pub one_verdict : (c : Option Options) (library : Library) (bytes : List ℕ) (v w : Verdict) → IsVerdict c library bytes v → IsVerdict c library bytes w → v ≡ w
one_verdict c library bytes Misused Misused a b = refl
one_verdict c library bytes Misused TooLong a b = not_chosen c a b.0
one_verdict c library bytes Misused (BadToken d there) a b = not_chosen c a b.0
one_verdict c library bytes Misused (BadOutline d there) a b = not_chosen c a b.0
one_verdict c library bytes Misused (BadProgram y) a b = not_chosen c a b.0
one_verdict c library bytes Misused (Accepted q y) a b = not_chosen c a (accepted_of c q b.0)
one_verdict c library bytes TooLong Misused a b = not_chosen c b a.0
one_verdict c library bytes TooLong TooLong a b = refl
one_verdict c library bytes TooLong (BadToken d there) a b = not_within (length bytes) a.1 b.1
one_verdict c library bytes TooLong (BadOutline d there) a b = not_within (length bytes) a.1 b.1
one_verdict c library bytes TooLong (BadProgram y) a b = not_within (length bytes) a.1 b.1
one_verdict c library bytes TooLong (Accepted o q) a b = not_within (length bytes) a.1 b.1
one_verdict c library bytes (BadToken code at) Misused a b = not_chosen c b a.0
one_verdict c library bytes (BadToken code at) TooLong a b = not_within (length bytes) b.1 a.1
one_verdict c library bytes (BadToken code at) (BadToken d there) a b = bad_token_once code d at there (refuses_once bytes code d at there a.2 b.2)
one_verdict c library bytes (BadToken code at) (BadOutline d there) a b = absurd (apart bytes b.2.0 code at b.2.1 a.2)
one_verdict c library bytes (BadToken code at) (BadProgram y) a b = absurd (apart bytes b.2.0 code at b.2.2 a.2)
one_verdict c library bytes (BadToken code at) (Accepted o q) a b = absurd (apart bytes b.2.0 code at b.2.2 a.2)
one_verdict c library bytes (BadOutline code at) Misused a b = not_chosen c b a.0
one_verdict c library bytes (BadOutline code at) TooLong a b = not_within (length bytes) b.1 a.1
one_verdict c library bytes (BadOutline code at) (BadToken d there) a b = absurd (apart bytes a.2.0 d there a.2.1 b.2)
one_verdict c library bytes (BadOutline code at) (BadOutline d there) a b = bad_outline_once code d at there (lacks_once bytes code d at there a.2 b.2)
one_verdict c library bytes (BadOutline code at) (BadProgram y) a b = asks_lacks library bytes (Err (Refuses y)) code at b.2 a.2
one_verdict c library bytes (BadOutline code at) (Accepted o q) a b = asks_lacks library bytes (Ok q) code at b.2 a.2
one_verdict c library bytes (BadProgram x) Misused a b = not_chosen c b a.0
one_verdict c library bytes (BadProgram x) TooLong a b = not_within (length bytes) b.1 a.1
one_verdict c library bytes (BadProgram x) (BadToken d there) a b = absurd (apart bytes a.2.0 d there a.2.2 b.2)
one_verdict c library bytes (BadProgram x) (BadOutline d there) a b = asks_lacks library bytes (Err (Refuses x)) d there a.2 b.2
one_verdict c library bytes (BadProgram x) (BadProgram y) a b = ap BadProgram (refusal_once library bytes x y a.2 b.2)
one_verdict c library bytes (BadProgram x) (Accepted o q) a b = not_both library bytes q (Refuses x) b.2 a.2
one_verdict c library bytes (Accepted o p) Misused a b = not_chosen c b (accepted_of c o a.0)
one_verdict c library bytes (Accepted o p) TooLong a b = not_within (length bytes) b.1 a.1
one_verdict c library bytes (Accepted o p) (BadToken d there) a b = absurd (apart bytes a.2.0 d there a.2.2 b.2)
one_verdict c library bytes (Accepted o p) (BadOutline d there) a b = asks_lacks library bytes (Ok p) d there a.2 b.2
one_verdict c library bytes (Accepted o p) (BadProgram y) a b = not_both library bytes p (Refuses y) a.2 b.2
one_verdict c library bytes (Accepted o p) (Accepted q u) a b =
    ap₂ Accepted (chosen_once c o q a.0 b.0) (program_once library bytes p u a.2 b.2)

-- what has a verdict comes to no name of which nothing is told
pub told_once : (c : Option Options) (library : Library) (bytes : List ℕ) (v : Verdict) → IsVerdict c library bytes v → IsSilent c library bytes → ⊥
told_once c library bytes Misused a b = not_chosen c a b.0
told_once c library bytes TooLong a b = not_within (length bytes) a.1 b.1
told_once c library bytes (BadToken code at) a b = apart bytes b.2.0 code at b.2.2 a.2
told_once c library bytes (BadOutline code at) a b = asks_lacks library bytes (Err Silent) code at b.2 a.2
told_once c library bytes (BadProgram x) a b = no_silent x (halted_once library bytes (Refuses x) Silent a.2 b.2)
told_once c library bytes (Accepted o p) a b = not_both library bytes p Silent a.2 b.2

-- one text and one status are the report
pub one_report : (c : Option Options) (library : Library) (bytes text other : List ℕ) (answer another : Status)
    → IsReport c library bytes text answer → IsReport c library bytes other another → (text ≡ other) × (answer ≡ another)
one_report c library bytes text other answer another a b =
    let same : a.verdict ≡ b.verdict = one_verdict c library bytes a.verdict b.verdict a.applies b.applies in
    (a.says.text_is ∙ ap text_for same ∙ sym b.says.text_is, a.says.answer_is ∙ ap status_for same ∙ sym b.says.answer_is)
