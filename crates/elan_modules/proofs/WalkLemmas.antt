-- Walks one after the other.
use Rattle.std.proofs.Common.{◌≡◌, ◌≤◌, ◌+◌, inl, inr, ℕ, Bool, true, false, List, [], ◌∷◌, Result, Ok, Err, Option, refl, sym, ◌∙◌, subst, arith}
use Rattle.elan_text.specs.Streams.{Rose}
use Rattle.elan_modules.specs.declared.flat.FlattenRefusal.{FlattenRefusal}
use Rattle.elan_modules.specs.declared.flat.FlattenRefusal.TheVariants.{Refused, LoaderFault, NoMemory}
use Rattle.elan_loaders.specs.Libraries.{Library as Texts, EachRose, NoneFell, SomeRose, sum_of}
use Rattle.elan_modules.specs.Visits.{Library, Halted, Refuses, Silent, next}
use Rattle.elan_modules.specs.declared.flat.LoadedText.{LoadedText}
use Rattle.elan_modules.specs.Walks.{Shelf, Stock, IsSound, nothing, Comes, Moved, Untouched, is_fault, is_absent, is_silent, Lacks, IsAnswer, Extends, IsOf, Stops, Answered, Walks}
use Rattle.elan_modules.proofs.AnswerLemmas.{extends_both, answered_still}
use Rattle.elan_loaders.proofs.AskLemmas.{none_fell}

-- ---- counts

pub fell_both : (xs ys zs : List ℕ) → NoneFell xs ys → NoneFell ys zs → NoneFell xs zs
fell_both [] [] [] a b = tt
fell_both [] [] (z ∷ zs) a b = elim b [ ]
fell_both [] (y ∷ ys) zs a b = elim a [ ]
fell_both (x ∷ xs) [] zs a b = elim a [ ]
fell_both (x ∷ xs) (y ∷ ys) [] a b = elim b [ ]
fell_both (x ∷ xs) (y ∷ ys) (z ∷ zs) a b = (omega (arith, a.0, b.0), fell_both xs ys zs a.1 b.1)

rose_later : (x y z : ℕ) → x ≤ y → Rose y z → Rose x z
rose_later x y z le (inl less) = inl (omega (arith, le, less))
rose_later x y z le (inr full) = inr full

pub each_later : (xs ys zs : List ℕ) → NoneFell xs ys → EachRose ys zs → EachRose xs zs
each_later [] [] [] a b = tt
each_later [] [] (z ∷ zs) a b = elim b [ ]
each_later [] (y ∷ ys) zs a b = elim a [ ]
each_later (x ∷ xs) [] zs a b = elim a [ ]
each_later (x ∷ xs) (y ∷ ys) [] a b = elim b [ ]
each_later (x ∷ xs) (y ∷ ys) (z ∷ zs) a b = (rose_later x y z a.0 b.0, each_later xs ys zs a.1 b.1)

sum_grows : (xs ys : List ℕ) → NoneFell xs ys → sum_of xs ≤ sum_of ys
sum_grows [] [] a = omega arith
sum_grows [] (y ∷ ys) a = elim a [ ]
sum_grows (x ∷ xs) [] a = elim a [ ]
sum_grows (x ∷ xs) (y ∷ ys) a = add_both x y (sum_of xs) (sum_of ys) a.0 (sum_grows xs ys a.1)
  where
    add_both : (m n k l : ℕ) → m ≤ n → k ≤ l → m + k ≤ n + l
    add_both m n k l a b = omega (arith, a, b)

pub some_later : (xs ys zs : List ℕ) → NoneFell xs ys → SomeRose ys zs → SomeRose xs zs
some_later xs ys zs a (inl less) = inl (omega (arith, sum_grows xs ys a, less))
some_later xs ys zs a (inr full) = inr full

pub moved_both : (r s t : Shelf) → Moved r s → Moved s t → Moved r t
moved_both r s t a b = record {
  told = b.told ∙ a.told;
  misses = fell_both r.misses s.misses t.misses a.misses b.misses;
  failures = fell_both r.failures s.failures t.failures a.failures b.failures;
}

pub not_moved : (s : Shelf) → Moved s s
not_moved s = record { told = refl; misses = none_fell s.misses; failures = none_fell s.failures }

pub not_touched : (s : Shelf) → Untouched s s
not_touched s = record { misses = refl; failures = refl }

pub touched_both : (r s t : Shelf) → Untouched r s → Untouched s t → Untouched r t
touched_both r s t a b = record { misses = b.misses ∙ a.misses; failures = b.failures ∙ a.failures }

-- what tells nothing is sound
pub nothing_sound : (s : Shelf) → IsSound nothing s.told
nothing_sound s name = inl refl

-- ---- one call

-- a call that asks no loader
pub walks_still : {A V : Type 0} (d : Result A Halted) (s : Stock) (view : V → A) (result : Result V FlattenRefusal)
    → is_silent d ≡ false → Comes view result d → is_fault result ≡ false → is_absent result ≡ false
    → Walks (λ _. d) s s view result
walks_still d s view result heard comes fault absent = record {
  comes = λ library sound. comes;
  answered = λ said can of. answered_still d s.loaders.told said s.texts view result heard comes fault can of;
  moved = not_moved s.loaders;
  fault = λ is. absurd (not_both (is_fault result) is fault);
  absent = λ is. absurd (not_both (is_absent result) is absent);
  alone = λ is. (not_touched s.loaders, fault);
}
  where
    not_both : (b : Bool) → b ≡ true → b ≡ false → ⊥
    not_both b t f = cc

-- ---- two calls

module _ {A B V W : Type 0} (d : Library → Result A Halted) (e : Library → A → Result B Halted) (view : V → A)
    (see : W → B) where
  -- what the first one comes to is where the second one begins
  comes_then : (v : V) (x : Result A Halted) (more : A → Result B Halted) (result : Result W FlattenRefusal)
      → Comes view (Ok v) x → Comes see result (more (view v)) → Comes see result (next x more)
  comes_then v (Ok a) more result first second = subst (λ z. Comes see result (more z)) (sym first) second
  comes_then v (Err (Refuses r)) more result first second = absurd first
  comes_then v (Err Silent) more result first second = silent result
    where
      silent : (result : Result W FlattenRefusal) → Comes see result (Err Silent)
      silent (Ok w) = tt
      silent (Err (Refused r)) = tt
      silent (Err LoaderFault) = tt
      silent (Err NoMemory) = tt

  not_silent : (v : V) (x : Result A Halted) (more : A → Result B Halted) → Comes view (Ok v) x
      → is_silent (next x more) ≡ false → (is_silent x ≡ false) × (is_silent (more (view v)) ≡ false)
  not_silent v (Ok a) more first is = (refl, subst (λ z. is_silent (more z) ≡ false) first is)
  not_silent v (Err (Refuses r)) more first is = absurd first
  not_silent v (Err Silent) more first is = absurd cc

  -- with what was answered the first one comes to its value, and goes on
  goes_on : (v : V) (x : Result A Halted) (more : A → Result B Halted) → x ≡ Ok (view v) → next x more ≡ more (view v)
  goes_on v x more is = rw is refl

  stops_then : (v : V) (result : Result W FlattenRefusal) (one two : Library) (middle texts : List LoadedText)
      → Stops view d middle one (Ok v) → Extends one two → Stops see (λ library. e library (view v)) texts two result
      → Stops see (λ library. next (d library) (e library)) texts two result
  stops_then v (Ok w) one two middle texts first far second = (
    λ more further. goes_on v (d more) (e more) (first.0 more (extends_both one two more far further))
        ∙ second.0 more further,
    second.1,
  )
  stops_then v (Err (Refused r)) one two middle texts first far second =
      λ more further. goes_on v (d more) (e more) (first.0 more (extends_both one two more far further))
      ∙ second more further
  stops_then v (Err LoaderFault) one two middle texts first far second =
      goes_on v (d two) (e two) (first.0 two far) ∙ second
  stops_then v (Err NoMemory) one two middle texts first far second = tt

  answered_then : (r s : Stock) (texts : List LoadedText) (v : V) (result : Result W FlattenRefusal) (said : Library)
      → s.loaders.told ≡ r.loaders.told → Answered d r.loaders.told said s.texts view (Ok v)
      → ((one : Library) → IsAnswer s.loaders.told one → IsOf s.texts one
      → Answered (λ library. e library (view v)) s.loaders.told one texts see result)
      → Answered (λ library. next (d library) (e library)) r.loaders.told said texts see result
  answered_then r s texts v result said same first rest =
      let second = rest first.said
      (subst (λ told. IsAnswer told first.said) (sym same) first.is_answer) first.stops.1 in
      record {
        said = second.said;
        is_answer = subst (λ told. IsAnswer told second.said) same second.is_answer;
        extends = extends_both said first.said second.said first.extends second.extends;
        stops = stops_then v result first.said second.said s.texts texts first.stops second.extends second.stops;
      }

  pub walks_then : (r s t : Stock) (v : V) (result : Result W FlattenRefusal) → Walks d r s view (Ok v)
      → Walks (λ library. e library (view v)) s t see result → Walks (λ library. next (d library) (e library)) r t see result
  walks_then r s t v result first second = record {
    comes = λ library sound. comes_then v (d library) (e library) result (first.comes library sound)
        (second.comes library (subst (λ told. IsSound library told) (sym first.moved.told) sound));
    answered = λ said can of. answered_then r s t.texts v result said first.moved.told
        (first.answered said can of) second.answered;
    moved = moved_both r.loaders s.loaders t.loaders first.moved second.moved;
    fault = λ is. some_later r.loaders.failures s.loaders.failures t.loaders.failures first.moved.failures
        (second.fault is);
    absent = λ is.
        let lacking = second.absent is in (
          each_later r.loaders.misses s.loaders.misses t.loaders.misses first.moved.misses lacking.0,
          subst (λ told. Lacks told result) first.moved.told lacking.1,
        );
    alone = λ is.
        let both = not_silent v (d nothing) (e nothing) (first.comes nothing (nothing_sound r.loaders)) is in
        let rest = second.alone both.1 in
        (touched_both r.loaders s.loaders t.loaders (first.alone both.0).0 rest.0, rest.1);
  }

  -- the first one ends the walk
  comes_ended : (why : FlattenRefusal) (x : Result A Halted) (more : A → Result B Halted)
      → Comes view (Err why) x → Comes see (Err why) (next x more)
  comes_ended (Refused r) (Ok a) more first = absurd first
  comes_ended (Refused r) (Err (Refuses s)) more first = first
  comes_ended (Refused r) (Err Silent) more first = tt
  comes_ended LoaderFault x more first = tt
  comes_ended NoMemory x more first = tt

  same_fault : (why : FlattenRefusal) → is_fault (let x : Result V FlattenRefusal = Err why in x) ≡ is_fault (let x : Result W FlattenRefusal = Err why in x)
  same_fault (Refused r) = refl
  same_fault LoaderFault = refl
  same_fault NoMemory = refl

  same_absent : (why : FlattenRefusal) → is_absent (let x : Result V FlattenRefusal = Err why in x) ≡ is_absent (let x : Result W FlattenRefusal = Err why in x)
  same_absent (Refused r) = refl
  same_absent LoaderFault = refl
  same_absent NoMemory = refl

  same_lacks : (told : List (Option Texts)) (why : FlattenRefusal) → Lacks told (let x : Result V FlattenRefusal = Err why in x)
      → Lacks told (let x : Result W FlattenRefusal = Err why in x)
  same_lacks told (Refused r) is = is
  same_lacks told LoaderFault is = is
  same_lacks told NoMemory is = is

  silent_first : (x : Result A Halted) (more : A → Result B Halted) → is_silent (next x more) ≡ false → is_silent x ≡ false
  silent_first (Ok a) more is = refl
  silent_first (Err (Refuses r)) more is = refl
  silent_first (Err Silent) more is = is

  ends : (halted : Halted) (x : Result A Halted) (more : A → Result B Halted) → x ≡ Err halted
      → next x more ≡ Err halted
  ends halted x more is = rw is refl

  stops_ended : (why : FlattenRefusal) (said : Library) (texts : List LoadedText)
      → Stops view d texts said (let x : Result V FlattenRefusal = Err why in x)
      → Stops see (λ library. next (d library) (e library)) texts said (let x : Result W FlattenRefusal = Err why in x)
  stops_ended (Refused r) said texts first = λ more far. ends (Refuses r) (d more) (e more) (first more far)
  stops_ended LoaderFault said texts first = ends Silent (d said) (e said) first
  stops_ended NoMemory said texts first = tt

  answered_ended : (why : FlattenRefusal) (told : List (Option Texts)) (said : Library) (texts : List LoadedText)
      → Answered d told said texts view (Err why)
      → Answered (λ library. next (d library) (e library)) told said texts see (Err why)
  answered_ended why told said texts first = record {
    said = first.said;
    is_answer = first.is_answer;
    extends = first.extends;
    stops = stops_ended why first.said texts first.stops;
  }

  pub walks_ended : (r s : Stock) (why : FlattenRefusal) → Walks d r s view (Err why)
      → Walks (λ library. next (d library) (e library)) r s see (Err why)
  walks_ended r s why first = record {
    comes = λ library sound. comes_ended why (d library) (e library) (first.comes library sound);
    answered = λ said can of. answered_ended why r.loaders.told said s.texts (first.answered said can of);
    moved = first.moved;
    fault = λ is. first.fault (same_fault why ∙ is);
    absent = λ is. let lacking =
        first.absent (same_absent why ∙ is) in (lacking.0, same_lacks r.loaders.told why lacking.1);
    alone = λ is.
        let rest = first.alone (silent_first (d nothing) (e nothing) is) in (rest.0, sym (same_fault why) ∙ rest.1);
  }
