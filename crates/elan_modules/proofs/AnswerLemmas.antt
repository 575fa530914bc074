-- What the loaders answered.
use Rattle.std.proofs.Common.{◌≡◌, ◌≢◌, ◌⊎◌, inl, inr, ℕ, ◌+◌, Bool, true, false, cond, List, [], ◌∷◌, ◌++◌, Option, Some, None, Result, Ok, Err, refl, sym, ap, ◌∙◌, subst}
use Rattle.std.specs.Str.{bytes_eq}
use Rattle.std.proofs.lemmas.Slice.Eq.{bytes_eq-Decides}
use Rattle.elan_syntax.specs.declared.parts.ModuleOutline.{ModuleOutline}
use Rattle.elan_modules.specs.declared.flat.LoadedText.{LoadedText}
use Rattle.elan_modules.specs.declared.flat.FlattenRefusal.{FlattenRefusal}
use Rattle.elan_modules.specs.declared.flat.FlattenRefusal.TheVariants.{Refused, LoaderFault, NoMemory}
use Rattle.elan_loaders.specs.Libraries.{Library as Texts, Told, Untold}
use Rattle.elan_modules.specs.Modules.{find_in, find, found_first, name_of}
use Rattle.elan_modules.specs.Visits.{Library, Halted, Refuses, Silent}
use Rattle.elan_modules.specs.Walks.{Comes, CanAnswer, IsAnswer, Extends, IsOf, Stops, Answered, is_fault, is_silent}

-- ---- libraries that say more

pub extends_same : (said : Library) → Extends said said
extends_same said name = inr refl

pub extends_both : (one two three : Library) → Extends one two → Extends two three → Extends one three
extends_both one two three a b name = go (a name) (b name)
  where
    go : (one name ≡ Untold) ⊎ (two name ≡ one name) → (two name ≡ Untold) ⊎ (three name ≡ two name)
        → (one name ≡ Untold) ⊎ (three name ≡ one name)
    go (inl none) more = inl none
    go (inr same) (inl none) = inl (sym same ∙ none)
    go (inr same) (inr more) = inr (more ∙ same)

-- what is said stays said
pub said_still : (said more : Library) (name : List ℕ) (answer : Told) → said name ≡ answer → answer ≢ Untold
    → Extends said more → more name ≡ answer
said_still said more name answer is some far = go (far name)
  where
    go : (said name ≡ Untold) ⊎ (more name ≡ said name) → more name ≡ answer
    go (inl none) = absurd (some (sym is ∙ none))
    go (inr same) = same ∙ is

-- ---- where a call stops

-- two definitions that say the same of what was answered
pub stops_under : {A V : Type 0} (d e : Library → Result A Halted) (texts : List LoadedText) (said : Library)
    (view : V → A)
    (result : Result V FlattenRefusal) → ((more : Library) → Extends said more → e more ≡ d more)
    → Stops view d texts said result → Stops view e texts said result
stops_under d e texts said view (Ok v) same is = (λ more far. same more far ∙ is.0 more far, is.1)
stops_under d e texts said view (Err (Refused r)) same is = λ more far. same more far ∙ is more far
stops_under d e texts said view (Err LoaderFault) same is = same said (extends_same said) ∙ is
stops_under d e texts said view (Err NoMemory) same is = tt

-- a definition that asks for no text
pub stops_still : {A V : Type 0} (d : Result A Halted) (texts : List LoadedText) (said : Library) (view : V → A)
    (result : Result V FlattenRefusal) → is_silent d ≡ false → Comes view result d → is_fault result ≡ false
    → ((v : V) → result ≡ Ok v → IsOf texts said) → Stops view (λ _. d) texts said result
stops_still (Ok a) texts said view (Ok v) heard comes fault of = (λ more far. ap (λ z. Ok z) comes, of v refl)
stops_still (Err (Refuses r)) texts said view (Ok v) heard comes fault of = absurd comes
stops_still (Err Silent) texts said view (Ok v) heard comes fault of = absurd cc
stops_still (Ok a) texts said view (Err (Refused r)) heard comes fault of = absurd comes
stops_still (Err (Refuses s)) texts said view (Err (Refused r)) heard comes fault of =
    λ more far. ap (λ z. Err (Refuses z)) comes
stops_still (Err Silent) texts said view (Err (Refused r)) heard comes fault of = absurd cc
stops_still d texts said view (Err LoaderFault) heard comes fault of = absurd cc
stops_still d texts said view (Err NoMemory) heard comes fault of = tt

-- nothing is answered anew
pub answered_still : {A V : Type 0} (d : Result A Halted) (told : List (Option Texts)) (said : Library)
    (texts : List LoadedText)
    (view : V → A) (result : Result V FlattenRefusal) → is_silent d ≡ false → Comes view result d
    → is_fault result ≡ false
    → IsAnswer told said → IsOf texts said → Answered (λ _. d) told said texts view result
answered_still d told said texts view result heard comes fault can of = record {
  said = said;
  is_answer = can;
  extends = extends_same said;
  stops = stops_still d texts said view result heard comes fault (λ v is. of);
}

-- a call that was refused memory
pub answered_hungry : {A V : Type 0} (d : Library → Result A Halted) (told : List (Option Texts)) (said : Library)
    (texts : List LoadedText) (view : V → A) → IsAnswer told said → Answered d told said texts view (Err NoMemory)
answered_hungry d told said texts view can =
    record { said = said; is_answer = can; extends = extends_same said; stops = tt }

-- an error, for a call that answers another value, wherever the texts stand
pub answered_error : {A V W : Type 0} (d : Library → Result A Halted) (told : List (Option Texts)) (said : Library)
    (texts further : List LoadedText) (view : V → A) (see : W → A) (why : FlattenRefusal)
    → Answered d told said texts view (Err why) → Answered d told said further see (Err why)
answered_error {A} {V} {W} d told said texts further view see why is =
    record { said = is.said; is_answer = is.is_answer; extends = is.extends; stops = go why is.stops }
  where
    go : (why : FlattenRefusal) → Stops view d texts is.said (let x : Result V FlattenRefusal = Err why in x)
        → Stops see d further is.said (let x : Result W FlattenRefusal = Err why in x)
    go (Refused r) stops = stops
    go LoaderFault stops = stops
    go NoMemory stops = stops

-- ---- one answer more

-- what is said with the answer of a name
abbrev pub with_answer : Library → List ℕ → Told → Library
with_answer said name answer wanted = cond (bytes_eq wanted name) answer (said wanted)

pub answer_is : (said : Library) (name : List ℕ) (answer : Told) → with_answer said name answer name ≡ answer
answer_is said name answer = let same : bytes_eq name name ≡ true = (bytes_eq-Decides name name).1 refl in rw same refl

pub answer_extends : (said : Library) (name : List ℕ) (answer : Told) → said name ≡ Untold
    → Extends said (with_answer said name answer)
answer_extends said name answer none wanted = go (bytes_eq wanted name) refl
  where
    go : (b : Bool) → bytes_eq wanted name ≡ b → (said wanted ≡ Untold) ⊎ (cond b answer (said wanted) ≡ said wanted)
    go true is = let same : wanted ≡ name = (bytes_eq-Decides wanted name).0 is in inl (ap said same ∙ none)
    go false is = inr refl

pub answer_can : (told : List (Option Texts)) (said : Library) (name : List ℕ) (answer : Told) → IsAnswer told said
    → CanAnswer told name answer → IsAnswer told (with_answer said name answer)
answer_can told said name answer can here wanted = go (bytes_eq wanted name) refl
  where
    go : (b : Bool) → bytes_eq wanted name ≡ b → CanAnswer told wanted (cond b answer (said wanted))
    go true is = let same : wanted ≡ name = (bytes_eq-Decides wanted name).0 is in
        subst (λ z. CanAnswer told z answer) (sym same) here
    go false is = can wanted

-- ---- modules among texts

-- a name that no text has, the first ones do not have
pub find_less : (texts more : List LoadedText) (i : ℕ) (name : List ℕ) → find i (texts ++ more) name ≡ None
    → find i texts name ≡ None
unfolding find
find_less [] more i name e = refl
find_less (t ∷ ts) more i name e = go (find_in t 0 t.modules name) e (find_less ts more (i + 1) name)
  where
    go : (x : Option (ℕ × ModuleOutline)) → found_first i t x (find (i + 1) (ts ++ more) name) ≡ None
        → (find (i + 1) (ts ++ more) name ≡ None → find (i + 1) ts name ≡ None)
        → found_first i t x (find (i + 1) ts name) ≡ None
    go (Some at) e rest = absurd cc
    go None e rest = rest e

-- nor does the last one
pub find_last : (texts : List LoadedText) (text : LoadedText) (i : ℕ) (name : List ℕ)
    → find i (texts ++ text ∷ []) name ≡ None → find_in text 0 text.modules name ≡ None
unfolding find
find_last [] text i name e = go (find_in text 0 text.modules name) e
  where
    go : (x : Option (ℕ × ModuleOutline)) → found_first i text x None ≡ None → x ≡ None
    go (Some at) e = absurd cc
    go None e = refl
find_last (t ∷ ts) text i name e = go (find_in t 0 t.modules name) e (find_last ts text (i + 1) name)
  where
    go : (x : Option (ℕ × ModuleOutline)) → found_first i t x (find (i + 1) (ts ++ text ∷ []) name) ≡ None
        → (find (i + 1) (ts ++ text ∷ []) name ≡ None → find_in text 0 text.modules name ≡ None)
        → find_in text 0 text.modules name ≡ None
    go (Some at) e rest = absurd cc
    go None e rest = rest e

-- a text with one module of a name has the name
find_own : (text : LoadedText) (m : ModuleOutline) (name : List ℕ) → name_of text m ≡ name
    → find_in text 0 (m ∷ []) name ≡ None → ⊥
unfolding find_in
find_own text m name named e =
    let same : bytes_eq (name_of text m) name ≡ true = (bytes_eq-Decides (name_of text m) name).1 named in
    no (rw same at e)
  where
    no : (let x : Option (ℕ × ModuleOutline) = Some (0, m) in x) ≡ None → ⊥
    no e = absurd cc

-- the answer is that of a name of which the last text has a module
pub answer_of : (said : Library) (texts : List LoadedText) (text : LoadedText) (m : ModuleOutline) (name : List ℕ)
    (answer : Told)
    → IsOf texts said → text.modules ≡ m ∷ [] → name_of text m ≡ name
    → IsOf (texts ++ text ∷ []) (with_answer said name answer)
answer_of said texts text m name answer of one named wanted none = go (bytes_eq wanted name) refl
  where
    go : (b : Bool) → bytes_eq wanted name ≡ b → cond b answer (said wanted) ≡ Untold
    go true is =
        let same : wanted ≡ name = (bytes_eq-Decides wanted name).0 is in
        let missing : find_in text 0 text.modules name ≡ None = subst (λ z. find_in text 0 text.modules z ≡ None) same
        (find_last texts text 0 wanted none) in
        absurd (find_own text m name named (subst (λ z. find_in text 0 z name ≡ None) one missing))
    go false is = of wanted (find_less texts (text ∷ []) 0 wanted none)
