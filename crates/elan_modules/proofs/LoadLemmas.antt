-- Texts that are loaded.
use Rattle.std.proofs.Common.{◌≡◌, ◌≢◌, ◌<◌, ◌⊎◌, inl, inr, ℕ, zero, suc, ◌+◌, nat_le, Bool, true, false, List, [], ◌∷◌, ◌++◌, length, nat_lt, None, Result, Ok, Err, refl, sym, ap, ◌∙◌, subst, arith}
use Rattle.std.specs.Prelude.{◌&&◌, ◌||◌, ◌==◌, IfOk}
use Rattle.std.specs.List.{list_all}
use Rattle.std.specs.Str.{IsAscii, IsUtf8}
use Rattle.std.proofs.lemmas.Str.{IsUtf8-from_ascii}
use Rattle.elan_text.specs.declared.name.Name.{Name}
use Rattle.elan_text.specs.declared.refusal.Code.TheVariants.{E06}
use Rattle.elan_text.specs.declared.refusal.Refusal.{Refusal}
use Rattle.elan_lexer.specs.declared.fault.Fault.{Fault}
use Rattle.elan_lexer.specs.declared.fault.Fault.TheVariants.{BadByte, Unclosed, TooLarge}
use Rattle.elan_lexer.specs.Pieces.{code_of as code_of_fault}
use Rattle.std.proofs.lemmas.Bool.{leb-true}
use Rattle.elan_lexer.specs.Bytes.{is_between, is_letter, is_digit}
use Rattle.elan_lexer.specs.Lex.{Lexed, lexed}
use Rattle.elan_forms.specs.declared.why.Why.{Why}
use Rattle.elan_forms.specs.declared.why.Why.TheVariants.{Unexpected, TooMany}
use Rattle.elan_forms.specs.Whole.{Answer, done, refused}
use Rattle.elan_phrases.specs.Symbols.{Seen, seen, is_unreserved}
use Rattle.elan_syntax.specs.declared.parts.ModuleOutline.{ModuleOutline}
use Rattle.elan_syntax.specs.Grammar.{module_text}
use Rattle.elan_syntax.specs.Outlines.{code_of}
use Rattle.elan_lexer.specs.declared.token.Token.{Token}
use Rattle.elan_modules.specs.declared.flat.LoadedText.{LoadedText}
use Rattle.elan_modules.specs.declared.flat.FlattenRefusal.{FlattenRefusal}
use Rattle.elan_modules.specs.declared.flat.FlattenRefusal.TheVariants.{Refused, LoaderFault, NoMemory}
use Rattle.elan_loaders.specs.declared.loader.Fetched.TheVariants as fetch
use Rattle.elan_modules.specs.Walking.{Walk}
use Rattle.elan_modules.specs.declared.walk.Reference.{Reference}
use Rattle.elan_loaders.specs.Libraries.{Told, Has, HasNone, Untold, Shows, first_told, AnswersAll, NoneHas, EachRose, SomeRose}
use Rattle.elan_modules.specs.Modules.{Found, find, Opened, outlined, cut, opened, is_name, is_word_byte}
use Rattle.elan_modules.specs.Openings.{Opens}
use Rattle.elan_modules.specs.Visits.{is_e06, Library, Halted, Refuses, Silent, most_bytes, total, with_text, loaded, fetched, refusal_at}
use Rattle.elan_modules.specs.Walks.{Stock, IsSound, CanAnswer, IsAnswer, Extends, IsOf, Answered, Comes, Moved, is_fault, is_absent, is_silent, Lacks, Walks, Is, Stays}
use Rattle.elan_modules.specs.Loads.{only_outline, HasOne, IsOwn, texts_with, walk_with}
use Rattle.elan_modules.proofs.AnswerLemmas.{extends_same, said_still, stops_under, stops_still, answered_hungry, with_answer, answer_is, answer_extends, answer_can, answer_of}
use Rattle.elan_modules.proofs.HeardLemmas.{heard_loaded}

-- ---- names

both_true : (a b : Bool) → (a && b) ≡ true → (a ≡ true) × (b ≡ true)
both_true true b e = (refl, e)
both_true false b e = absurd cc

pub name_unreserved : (word : List ℕ) → is_name word ≡ true → is_unreserved word ≡ true
unfolding is_name
name_unreserved word e = (both_true (list_all is_word_byte word) (is_unreserved word) e).1

either_true : (a b : Bool) → (a || b) ≡ true → (a ≡ true) ⊎ (b ≡ true)
either_true true b e = inl refl
either_true false b e = inr e

up_to : (low high b : ℕ) → high < 128 → is_between low high b ≡ true → b < 128
up_to low high b le e = omega (arith, le, leb-true b high (both_true (nat_le low b) (nat_le b high) e).1)

small : (b : ℕ) → is_word_byte b ≡ true → b < 128
small b e = letter (either_true (is_letter b) (is_digit b || b == 95) e)
  where
    letter : (is_letter b ≡ true) ⊎ ((is_digit b || b == 95) ≡ true) → b < 128
    letter (inl is) = go (either_true (is_between 65 90 b) (is_between 97 122 b) is)
      where
        go : (is_between 65 90 b ≡ true) ⊎ (is_between 97 122 b ≡ true) → b < 128
        go (inl is) = up_to 65 90 b (omega arith) is
        go (inr is) = up_to 97 122 b (omega arith) is
    letter (inr is) = go (either_true (is_digit b) (b == 95) is)
      where
        go : (is_digit b ≡ true) ⊎ ((b == 95) ≡ true) → b < 128
        go (inl is) = up_to 48 57 b (omega arith) is
        go (inr is) = grind (arith, is)

ascii : (word : List ℕ) → list_all is_word_byte word ≡ true → IsAscii word
ascii [] e i = omega arith
ascii (b ∷ bs) e zero = small b (both_true (is_word_byte b) (list_all is_word_byte bs) e).0
ascii (b ∷ bs) e (suc i) = ascii bs (both_true (is_word_byte b) (list_all is_word_byte bs) e).1 i

pub name_utf8 : (word : List ℕ) → is_name word ≡ true → IsUtf8 word
unfolding is_name
name_utf8 word e = IsUtf8-from_ascii word (ascii word (both_true (list_all is_word_byte word) (is_unreserved word) e).0)

-- ---- codes

fault_code : (f : Fault) → is_e06 (code_of_fault f) ≡ false
fault_code BadByte = refl
fault_code Unclosed = refl
fault_code TooLarge = refl

why_code : (w : Why) → is_e06 (code_of w) ≡ false
why_code Unexpected = refl
why_code TooMany = refl

-- a text that is refused does not lack its module
abbrev NotAbsent : Opened → Type 0
NotAbsent (Ok read) = Unit {0}
NotAbsent (Err r) = is_e06 r.code ≡ false

not_absent : (name : Name) (bytes : List ℕ) → NotAbsent (opened name bytes)
unfolding opened
not_absent name bytes = go (lexed bytes)
  where
    next : (tokens : List Token) (x : Answer Seen ModuleOutline) → NotAbsent (outlined name bytes tokens x)
    next tokens (done outline n rest) = tt
    next tokens (refused why rest) = why_code why

    go : (x : Lexed) → NotAbsent (cut name bytes x)
    go (Ok tokens) = next tokens ((module_text name).read 0 (seen bytes tokens))
    go (Err fault) = fault_code fault.0

-- ---- one text

pub admits : (walk : Walk) (name : Name) (bytes : List ℕ) (result : Result LoadedText FlattenRefusal)
    → nat_lt most_bytes (total walk.texts + length bytes) ≡ false → Opens (opened name bytes) result
    → Stays (walk_with walk) result (loaded walk name bytes)
admits walk name bytes result short is = rw short (go (opened name bytes) (not_absent name bytes) result is)
  where
    placed : LoadedText → ModuleOutline → Walk × Found
    placed text outline = (
      record { texts = walk.texts ++ text ∷ []; done = walk.done },
      record { text_number = length walk.texts; module_number = 0; text = text; outline = outline },
    )

    go : (x : Opened) → NotAbsent x → (result : Result LoadedText FlattenRefusal) → Opens x result
        → Stays (walk_with walk) result (with_text walk x)
    go (Ok read) here (Ok text) is = record {
      comes = ap (λ t. placed t read.1) is.0 ∙ ap (placed text) (sym (ap only_outline is.1));
      fault = refl;
      absent = refl;
    }
    go (Ok read) here (Err (Refused r)) is = absurd is
    go (Ok read) here (Err LoaderFault) is = absurd is
    go (Ok read) here (Err NoMemory) is = record { comes = tt; fault = refl; absent = refl }
    go (Err r) here (Ok text) is = absurd is
    go (Err r) here (Err (Refused s)) is = record { comes = is; fault = refl; absent = subst (λ z. is_e06 z.code ≡ false) is here }
    go (Err r) here (Err LoaderFault) is = absurd is
    go (Err r) here (Err NoMemory) is = record { comes = tt; fault = refl; absent = refl }

-- ---- the loaders' text

-- where a definition comes to a name of which nothing is told, nothing is said
pub comes_silent : {A V : Type 0} (view : V → A) (result : Result V FlattenRefusal) → Comes view result (Err Silent)
comes_silent view (Ok v) = tt
comes_silent view (Err (Refused r)) = tt
comes_silent view (Err LoaderFault) = tt
comes_silent view (Err NoMemory) = tt

-- an answer that names a refusal comes to it
is_comes : {A V : Type 0} (view : V → A) (r : Refusal) (why : FlattenRefusal) → Is r why → Comes view (Err why) (Err (Refuses r))
is_comes view r (Refused s) is = sym is
is_comes view r LoaderFault is = absurd is
is_comes view r NoMemory is = tt

is_no_fault : (V : Type 0) (r : Refusal) (why : FlattenRefusal) → Is r why → is_fault (let x : Result V FlattenRefusal = Err why in x) ≡ false
is_no_fault V r (Refused s) is = refl
is_no_fault V r LoaderFault is = absurd is
is_no_fault V r NoMemory is = refl

module _ (walk : Walk) (r : Reference) (s t : Stock) (view : LoadedText → Walk × Found)
    (moved : Moved s.loaders t.loaders) where
  -- what is asked is the name of the reference
  abbrev Asked : Library → Result (Walk × Found) Halted
  Asked library = fetched walk r (library r.name.bytes)

  -- what is told is either nothing or what the loaders tell
  asked_by : (result : Result LoadedText FlattenRefusal)
      → Comes view result (fetched walk r (first_told s.loaders.told r.name.bytes))
      → (library : Library) → IsSound library s.loaders.told → Comes view result (Asked library)
  asked_by result comes library sound = go (library r.name.bytes) (sound r.name.bytes)
    where
      go : (x : Told) → (x ≡ Untold) ⊎ (x ≡ first_told s.loaders.told r.name.bytes)
          → Comes view result (fetched walk r x)
      go x (inl none) = rw none (comes_silent view result)
      go x (inr same) = rw same comes

  -- what was answered of a name of which nothing was said before
  module _ (new : find 0 s.texts r.name.bytes ≡ None) (said : Library) (can : IsAnswer s.loaders.told said)
      (of : IsOf s.texts said)
      (answer : Told) (some : answer ≢ Untold) (here : CanAnswer s.loaders.told r.name.bytes answer) where
    abbrev heard_with : Library
    heard_with = with_answer said r.name.bytes answer

    asked_is : (more : Library) → Extends heard_with more → fetched walk r (more r.name.bytes) ≡ fetched walk r answer
    asked_is more far = ap (λ z. fetched walk r z)
        (said_still heard_with more r.name.bytes answer (answer_is said r.name.bytes answer) some far)

    answered_by : (texts : List LoadedText) (result : Result LoadedText FlattenRefusal)
        → is_silent (fetched walk r answer) ≡ false
        → Comes view result (fetched walk r answer) → is_fault result ≡ false
        → ((text : LoadedText) → result ≡ Ok text → IsOf texts heard_with)
        → Answered Asked s.loaders.told said texts view result
    answered_by texts result heard comes fault last = record {
      said = heard_with;
      is_answer = answer_can s.loaders.told said r.name.bytes answer can here;
      extends = answer_extends said r.name.bytes answer (of r.name.bytes new);
      stops = stops_under (λ _. fetched walk r answer) Asked texts heard_with view result asked_is
          (stops_still (fetched walk r answer) texts heard_with view result heard comes fault last);
    }

  walks_asked : (result : Result LoadedText FlattenRefusal)
      → Comes view result (fetched walk r (first_told s.loaders.told r.name.bytes))
      → (is_fault result ≡ true → SomeRose s.loaders.failures t.loaders.failures)
      → (is_absent result ≡ true → EachRose s.loaders.misses t.loaders.misses × Lacks s.loaders.told result)
      → ((said : Library) → IsAnswer s.loaders.told said → IsOf s.texts said
      → Answered Asked s.loaders.told said t.texts view result)
      → Walks Asked s t view result
  walks_asked result comes fault absent answered = record {
    comes = asked_by result comes;
    answered = answered;
    moved = moved;
    fault = fault;
    absent = absent;
    alone = λ is. absurd cc;
  }

  pub walks_found : (bytes : List ℕ) (result : Result LoadedText FlattenRefusal)
      → find 0 s.texts r.name.bytes ≡ None → t.texts ≡ texts_with s.texts result
      → IfOk result (λ text. HasOne text.modules) → IfOk result (λ text. IsOwn r.name text)
      → AnswersAll (first_told s.loaders.told r.name.bytes) fetch.Found [] bytes
      → Stays view result (loaded walk r.name bytes)
      → Walks Asked s t view result
  walks_found bytes result new texts one own answers stays =
      walks_asked result (go (first_told s.loaders.told r.name.bytes) answers)
      (λ is. absurd (not_both (is_fault result) is stays.fault)) (λ is. absurd (not_both (is_absent result) is stays.absent))
      (λ said can of. answered_by new said can of (Has bytes) (λ e. absurd cc)
      (shown (first_told s.loaders.told r.name.bytes) answers)
      t.texts result (heard_loaded walk r.name bytes) stays.comes stays.fault
      (λ text is. last said of text (texts ∙ ap (texts_with s.texts) is)
      (subst (λ z. IfOk z (λ (text : LoadedText). HasOne text.modules)) is one)
      (subst (λ z. IfOk z (IsOwn r.name)) is own)))
    where
      shown : (x : Told) → AnswersAll x fetch.Found [] bytes → Shows x bytes
      shown x is = subst (λ z. Shows x z) (sym is.1) is.2

      last : (said : Library) → IsOf s.texts said → (text : LoadedText) → t.texts ≡ s.texts ++ text ∷ []
          → HasOne text.modules
          → IsOwn r.name text → IsOf t.texts (with_answer said r.name.bytes (Has bytes))
      last said of text at one own = subst (λ z. IsOf z (with_answer said r.name.bytes (Has bytes))) (sym at)
          (answer_of said s.texts text (only_outline text.modules) r.name.bytes (Has bytes) of one own.named)

      not_both : (b : Bool) → b ≡ true → b ≡ false → ⊥
      not_both b t f = cc

      go : (x : Told) → AnswersAll x fetch.Found [] bytes → Comes view result (fetched walk r x)
      go (Has text) is = subst (λ z. Comes view result (loaded walk r.name z)) (is.1 ∙ is.2) stays.comes
      go HasNone is = absurd is.2
      go Untold is = comes_silent view result

  pub walks_absent : (bytes : List ℕ) (why : FlattenRefusal) → find 0 s.texts r.name.bytes ≡ None
      → AnswersAll (first_told s.loaders.told r.name.bytes) fetch.Absent [] bytes
      → EachRose s.loaders.misses t.loaders.misses
      → NoneHas s.loaders.told r.name.bytes → Is (refusal_at E06 r) why → Walks Asked s t view (Err why)
  walks_absent bytes why new answers rose none is =
      walks_asked (Err why) (go (first_told s.loaders.told r.name.bytes) answers)
      (λ fault. absurd (not_both _ fault (is_no_fault LoadedText (refusal_at E06 r) why is))) (λ absent. (rose, lacks why is absent))
      (λ said can of. answered_by new said can of HasNone (λ e. absurd cc) (answers.1, none) t.texts (Err why) refl
      (is_comes view (refusal_at E06 r) why is) (is_no_fault LoadedText (refusal_at E06 r) why is)
      (λ text e. absurd cc))
    where
      not_both : (b : Bool) → b ≡ true → b ≡ false → ⊥
      not_both b t f = cc

      lacks : (why : FlattenRefusal) → Is (refusal_at E06 r) why
          → is_absent (let x : Result LoadedText FlattenRefusal = Err why in x) ≡ true
          → Lacks s.loaders.told (let x : Result LoadedText FlattenRefusal = Err why in x)
      lacks (Refused other) is absent = (r, is, none)
      lacks LoaderFault is absent = absurd is
      lacks NoMemory is absent = absurd cc

      go : (x : Told) → AnswersAll x fetch.Absent [] bytes → Comes view (Err why) (fetched walk r x)
      go (Has text) answer = absurd answer.1
      go HasNone answer = is_comes view (refusal_at E06 r) why is
      go Untold answer = comes_silent view (Err why)

  pub walks_failed : find 0 s.texts r.name.bytes ≡ None → SomeRose s.loaders.failures t.loaders.failures
      → Walks Asked s t view (Err LoaderFault)
  walks_failed new rose = walks_asked (Err LoaderFault) tt (λ _. rose) (λ is. absurd cc)
      (λ said can of. record {
        said = said;
        is_answer = can;
        extends = extends_same said;
        stops = ap (λ z. fetched walk r z) (of r.name.bytes new);
      })

  pub walks_hungry : Walks Asked s t view (Err NoMemory)
  walks_hungry = walks_asked (Err NoMemory) tt (λ is. absurd cc) (λ is. absurd cc)
      (λ said can of. answered_hungry Asked s.loaders.told said t.texts view can)
