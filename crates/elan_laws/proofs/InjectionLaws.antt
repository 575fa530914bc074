-- Injections have no cycle exactly where no chain of them is longer than there are sorts.
use Rattle.std.proofs.Common.{◌≡◌, refl, sym, ap, subst, ◌∙◌, ◌⊎◌, inl, inr, ⊎_elim, ℕ, zero, suc, ◌<◌, ◌≤◌, Bool, true, false, not, ◌||◌, ◌==◌, if◌then◌else◌, ◌↔◌, List, [], ◌∷◌, length, slice_index_or, arith}
use Rattle.std.specs.List.{Contains, filter, list_any}
use Rattle.std.specs.Cmp.{unsigned_Decides}
use Rattle.elan_program.specs.declared.signature.Signature.{Signature}
use Rattle.elan_program.specs.Soundness.{chains, led_on, is_some_list, injections, has_no_cycle}
use Rattle.elan_laws.specs.Injections.{Leads, at_once, further, HasNoCycle, BeginAmong}

-- ---- elements

-- an element of a list, step by step
pub data Has {X : Type 0} (x : X) : List X → Type 0 where
  here : {y : X} {xs : List X} → y ≡ x → Has x (y ∷ xs)
  there : {y : X} {xs : List X} → Has x xs → Has x (y ∷ xs)

has_at : {X : Type 0} (xs : List X) (k : ℕ) (x : X) → k < length xs → slice_index_or xs k x ≡ x → Has x xs
has_at [] k x inside is = absurd (omega arith)
has_at (y ∷ xs) zero x inside is = here is
has_at (y ∷ xs) (suc k) x inside is = there (has_at xs k x (omega arith) is)

has_contains : {X : Type 0} (xs : List X) (x : X) → Contains xs x → Has x xs
has_contains xs x c = has_at xs c.0 x c.1 c.2

contains_has : {X : Type 0} (x : X) (xs : List X) → Has x xs → Contains xs x
contains_has x [] h = elim h [ ]
contains_has x (y ∷ xs) (here e) = (0, omega arith, e)
contains_has x (y ∷ xs) (there h) = let c = contains_has x xs h in (suc c.0, omega (arith, c.1), c.2)

or_right : (a b : Bool) → b ≡ true → (a || b) ≡ true
or_right true b e = refl
or_right false b e = e

-- an element that passes a test
passes : {X : Type 0} (x : X) (test : X → Bool) (xs : List X) → Has x xs → test x ≡ true → list_any test xs ≡ true
passes x test [] h t = elim h [ ]
passes x test (y ∷ xs) (here e) t = ap (λ b. b || list_any test xs) (ap test e ∙ t)
passes x test (y ∷ xs) (there h) t = or_right (test y) (list_any test xs) (passes x test xs h t)

kept_by : {X : Type 0} (x y : X) (test : X → Bool) (xs : List X) (b : Bool) → test y ≡ b → test x ≡ true
    → (Has x xs → Has x (filter test xs)) → Has x (y ∷ xs) → Has x (if b then y ∷ filter test xs else filter test xs)
kept_by x y test xs true is t rest (here e) = here e
kept_by x y test xs true is t rest (there h) = there (rest h)
kept_by x y test xs false is t rest (here e) = absurd (true-is_no-false (sym t ∙ ap test (sym e) ∙ is))
  where
    true-is_no-false : true ≡ false → ⊥
    true-is_no-false h = cc
kept_by x y test xs false is t rest (there h) = rest h

kept : {X : Type 0} (x : X) (test : X → Bool) (xs : List X) → Has x xs → test x ≡ true → Has x (filter test xs)
kept x test [] h t = h
kept x test (y ∷ xs) h t = kept_by x y test xs (test y) refl t (λ g. kept x test xs g t) h

-- an element that was kept was there and passes
was_by : {X : Type 0} (x y : X) (test : X → Bool) (xs : List X) (b : Bool) → test y ≡ b
    → (Has x (filter test xs) → Has x xs × (test x ≡ true)) → Has x (if b then y ∷ filter test xs else filter test xs) → Has x (y ∷ xs) × (test x ≡ true)
was_by x y test xs true is rest (here e) = (here e, ap test (sym e) ∙ is)
was_by x y test xs true is rest (there h) = let r = rest h in (there r.0, r.1)
was_by x y test xs false is rest h = let r = rest h in (there r.0, r.1)

was : {X : Type 0} (x : X) (test : X → Bool) (xs : List X) → Has x (filter test xs) → Has x xs × (test x ≡ true)
was x test [] h = elim h [ ]
was x test (y ∷ xs) h = was_by x y test xs (test y) refl (was x test xs) h

-- one of the elements passes
found_by : {X : Type 0} (y : X) (test : X → Bool) (xs : List X) (b : Bool) → test y ≡ b
    → (list_any test xs ≡ true → (x : X) × Has x xs × (test x ≡ true)) → (b || list_any test xs) ≡ true → (x : X) × Has x (y ∷ xs) × (test x ≡ true)
found_by y test xs true is rest e = (y, here refl, is)
found_by y test xs false is rest e = let r = rest e in (r.0, there r.1, r.2)

found : {X : Type 0} (test : X → Bool) (xs : List X) → list_any test xs ≡ true → (x : X) × Has x xs × (test x ≡ true)
found test [] e = absurd (cc)
found test (y ∷ xs) e = found_by y test xs (test y) refl (found test xs) e

-- ---- more numbers than there is room for

-- each is below a bound
abbrev AllBelow : ℕ → List ℕ → Type 0
AllBelow n [] = Unit {0}
AllBelow n (x ∷ xs) = (x < n) × AllBelow n xs

-- a number stands twice
data Repeats : List ℕ → Type 0 where
  at_front : {x : ℕ} {xs : List ℕ} → Has x xs → Repeats (x ∷ xs)
  behind : {x : ℕ} {xs : List ℕ} → Repeats xs → Repeats (x ∷ xs)

-- the list without the first place of a number
abbrev struck : ℕ → List ℕ → List ℕ
struck m [] = []
struck m (x ∷ xs) = if x == m then xs else x ∷ struck m xs

has_struck_by : (m y x : ℕ) (xs : List ℕ) (b : Bool) → (Has y (struck m xs) → Has y xs) → Has y (if b then xs else x ∷ struck m xs) → Has y (x ∷ xs)
has_struck_by m y x xs true rest h = there h
has_struck_by m y x xs false rest (here e) = here e
has_struck_by m y x xs false rest (there h) = there (rest h)

has_struck : (m y : ℕ) (xs : List ℕ) → Has y (struck m xs) → Has y xs
has_struck m y [] h = h
has_struck m y (x ∷ xs) h = has_struck_by m y x xs (x == m) (has_struck m y xs) h

repeats_struck_by : (m x : ℕ) (xs : List ℕ) (b : Bool) → (Repeats (struck m xs) → Repeats xs) → Repeats (if b then xs else x ∷ struck m xs) → Repeats (x ∷ xs)
repeats_struck_by m x xs true rest r = behind r
repeats_struck_by m x xs false rest (at_front h) = at_front (has_struck m x xs h)
repeats_struck_by m x xs false rest (behind r) = behind (rest r)

repeats_struck : (m : ℕ) (xs : List ℕ) → Repeats (struck m xs) → Repeats xs
repeats_struck m [] r = r
repeats_struck m (x ∷ xs) r = repeats_struck_by m x xs (x == m) (repeats_struck m xs) r

length_struck_by : (m x : ℕ) (xs : List ℕ) (b : Bool) → length xs ≤ suc (length (struck m xs)) → suc (length xs) ≤ suc (length (if b then xs else x ∷ struck m xs))
length_struck_by m x xs true rest = omega arith
length_struck_by m x xs false rest = omega (arith, rest)

length_struck : (m : ℕ) (xs : List ℕ) → length xs ≤ suc (length (struck m xs))
length_struck m [] = omega arith
length_struck m (x ∷ xs) = length_struck_by m x xs (x == m) (length_struck m xs)

-- where it still has the number, the number stood twice
struck_twice_by : (m x : ℕ) (xs : List ℕ) (b : Bool) → (x == m) ≡ b → (Has m (struck m xs) → Repeats xs) → Has m (if b then xs else x ∷ struck m xs) → Repeats (x ∷ xs)
struck_twice_by m x xs true is rest h = at_front (subst (λ y. Has y xs) (sym ((unsigned_Decides x m).0 is)) h)
struck_twice_by m x xs false is rest (here e) = absurd (true-is_no-false (sym ((unsigned_Decides x m).1 e) ∙ is))
  where
    true-is_no-false : true ≡ false → ⊥
    true-is_no-false h = cc
struck_twice_by m x xs false is rest (there h) = behind (rest h)

struck_twice : (m : ℕ) (xs : List ℕ) → Has m (struck m xs) → Repeats xs
struck_twice m [] h = elim h [ ]
struck_twice m (x ∷ xs) h = struck_twice_by m x xs (x == m) refl (struck_twice m xs) h

below_struck_by : (n m x : ℕ) (xs : List ℕ) (b : Bool) → AllBelow n (struck m xs) → x < n → AllBelow n xs → AllBelow n (if b then xs else x ∷ struck m xs)
below_struck_by n m x xs true rest h all = all
below_struck_by n m x xs false rest h all = (h, rest)

below_struck : (n m : ℕ) (xs : List ℕ) → AllBelow n xs → AllBelow n (struck m xs)
below_struck n m [] h = tt
below_struck n m (x ∷ xs) h = below_struck_by n m x xs (x == m) (below_struck n m xs h.1) h.0 h.1

-- numbers that are below the next bound are below this one or are it
lower : (n : ℕ) (xs : List ℕ) → AllBelow (suc n) xs → AllBelow n xs ⊎ Has n xs
lower n [] h = inl tt
lower n (x ∷ xs) h = go (x == n) refl (lower n xs h.1)
  where
    less : (x == n) ≡ false → x < n
    less e = let apart : x ≡ n → ⊥ = λ f. true-is_no-false (sym ((unsigned_Decides x n).1 f) ∙ e) in omega (arith, h.0, apart)
      where
        true-is_no-false : true ≡ false → ⊥
        true-is_no-false g = cc

    go : (b : Bool) → (x == n) ≡ b → AllBelow n xs ⊎ Has n xs → AllBelow n (x ∷ xs) ⊎ Has n (x ∷ xs)
    go true e rest = inr (here ((unsigned_Decides x n).0 e))
    go false e (inl below) = inl (less e, below)
    go false e (inr has) = inr (there has)

pigeonhole : (n : ℕ) (xs : List ℕ) → AllBelow n xs → n < length xs → Repeats xs
pigeonhole zero [] h long = absurd (omega arith)
pigeonhole zero (x ∷ xs) h long = absurd (omega (arith, h.0))
pigeonhole (suc n) xs h long =
    ⊎_elim
    (λ below. repeats_struck n xs (pigeonhole n (struck n xs) below (omega (arith, long, length_struck n xs))))
    (λ has. struck_twice n xs has)
    (lower n (struck n xs) (below_struck (suc n) n xs h))

-- ---- chains

module _ (all : List (ℕ × ℕ)) where
  joined : {a b c : ℕ} → Leads all a b → Leads all b c → Leads all a c
  joined (at_once h) l = further h l
  joined (further h k) l = further h (joined k l)

  -- an injection from which the others lead back to where it ends
  record Next (s : ℕ) : Type 0 where
    edge : ℕ × ℕ
    there_is : Has edge all
    begins : edge.0 ≡ s
    comes_back : Leads all edge.1 edge.1

  next : (s t : ℕ) → t ≡ s → Leads all s t → Next s
  next s t e (at_once h) = record {
    edge = (s, t);
    there_is = has_contains all (s, t) h;
    begins = refl;
    comes_back = at_once (subst (λ u. Contains all (u, t)) (sym e) h);
  }
  next s t e (further {t = u} h k) = record {
    edge = (s, u);
    there_is = has_contains all (s, u) h;
    begins = refl;
    comes_back = joined (subst (Leads all u) e k) (at_once h);
  }

  on_chains : (n : ℕ) (i : ℕ × ℕ) → Has i all → Leads all i.1 i.1 → Has i (chains all n)
  unfolding led_on
  on_chains zero i h l = h
  on_chains (suc n) i h l =
      let f = next i.1 i.1 refl l in
      kept i (λ i. list_any (λ j. j.0 == i.1) (chains all n)) all h
      (passes f.edge (λ j. j.0 == i.1) (chains all n) (on_chains n f.edge f.there_is f.comes_back) (same f.edge.0 i.1 f.begins))
    where
      same : (a b : ℕ) → a ≡ b → (a == b) ≡ true
      same a b e = (unsigned_Decides a b).1 e

  -- ---- ways

  -- a sort leads to each of these
  abbrev LeadsToAll : ℕ → List ℕ → Type 0
  LeadsToAll s [] = Unit {0}
  LeadsToAll s (t ∷ ts) = Leads all s t × LeadsToAll s ts

  -- each leads to all that come later
  abbrev IsWay : List ℕ → Type 0
  IsWay [] = Unit {0}
  IsWay (s ∷ ss) = LeadsToAll s ss × IsWay ss

  -- a way of so many sorts
  record Way (count n s : ℕ) : Type 0 where
    more : List ℕ
    long : length more ≡ n
    below : AllBelow count (s ∷ more)
    is_way : IsWay (s ∷ more)

  onwards : (s t : ℕ) (ts : List ℕ) → Leads all s t → LeadsToAll t ts → LeadsToAll s ts
  onwards s t [] l h = tt
  onwards s t (u ∷ us) l h = (joined l h.0, onwards s t us l h.1)

  -- a chain that begins with an injection is a way
  way : (count : ℕ) → ((i : ℕ × ℕ) → Has i all → i.0 < count) → (n : ℕ) (i : ℕ × ℕ) → Has i (chains all n) → Way count n i.0
  unfolding led_on
  way count begins zero i h = record { more = []; long = refl; below = (begins i h, tt); is_way = (tt, tt) }
  way count begins (suc n) i h =
      let kept_is = was i (λ i. list_any (λ j. j.0 == i.1) (chains all n)) all h in
      let later = found (λ j. j.0 == i.1) (chains all n) kept_is.1 in
      let is : later.0.0 ≡ i.1 = (unsigned_Decides later.0.0 i.1).0 later.2 in
      let rest = way count begins n later.0 later.1 in
      let first : Leads all i.0 later.0.0 = subst (Leads all i.0) (sym is) (at_once (contains_has (i.0, i.1) all kept_is.0)) in
      record {
        more = later.0.0 ∷ rest.more;
        long = ap suc rest.long;
        below = (begins i kept_is.0, rest.below);
        is_way = ((first, onwards i.0 later.0.0 rest.more first rest.is_way.0), rest.is_way);
      }

  leads_to : (s t : ℕ) (ts : List ℕ) → LeadsToAll s ts → Has t ts → Leads all s t
  leads_to s t [] l h = elim h [ ]
  leads_to s t (u ∷ us) l (here e) = subst (Leads all s) e l.0
  leads_to s t (u ∷ us) l (there h) = leads_to s t us l.1 h

  -- a way that comes to a sort twice has a cycle
  comes_twice : (ss : List ℕ) → IsWay ss → Repeats ss → (s : ℕ) × Leads all s s
  comes_twice [] w r = elim r [ ]
  comes_twice (s ∷ ss) w (at_front h) = (s, leads_to s s ss w.0 h)
  comes_twice (s ∷ ss) w (behind r) = comes_twice ss w.1 r

  -- ---- both directions

  some_list : {X : Type 0} (x : X) (xs : List X) → Has x xs → is_some_list xs ≡ true
  some_list x [] h = elim h [ ]
  some_list x (y ∷ ys) h = refl

  some_element : {X : Type 0} (xs : List X) → is_some_list xs ≡ true → (x : X) × Has x xs
  some_element [] e = absurd (cc)
  some_element (x ∷ xs) e = (x, here refl)

  pub no_cycle : (n : ℕ) → not (is_some_list (chains all n)) ≡ true → HasNoCycle all
  no_cycle n e s l =
      let f = next s s refl l in
      not_both (is_some_list (chains all n)) (some_list f.edge (chains all n) (on_chains n f.edge f.there_is f.comes_back)) e
    where
      not_both : (b : Bool) → b ≡ true → not b ≡ true → ⊥
      not_both true e f = cc
      not_both false e f = cc

  pub no_chain : (n : ℕ) → ((i : ℕ × ℕ) → Has i all → i.0 < n) → HasNoCycle all → not (is_some_list (chains all n)) ≡ true
  no_chain n begins none = by_cases (is_some_list (chains all n)) refl
    where
      by_cases : (b : Bool) → is_some_list (chains all n) ≡ b → not b ≡ true
      by_cases false e = refl
      by_cases true e =
          let i = some_element (chains all n) e in
          let w = way n begins n i.0 i.1 in
          let c = comes_twice (i.0.0 ∷ w.more) w.is_way (pigeonhole n (i.0.0 ∷ w.more) w.below (omega (arith, w.long))) in
          absurd (none c.0 c.1)

-- ---- signatures

pub among : (n : ℕ) (all : List (ℕ × ℕ)) → BeginAmong n all → (i : ℕ × ℕ) → Has i all → i.0 < n
among n all begin i h = let c = contains_has i all h in subst (λ (j : ℕ × ℕ). j.0 < n) c.2 (begin c.0 i c.1)

pub injections_exactly : (g : Signature) → BeginAmong (length g.sorts) (injections g) → (has_no_cycle g ≡ true) ↔ HasNoCycle (injections g)
unfolding has_no_cycle
injections_exactly g begin =
    (λ e. no_cycle (injections g) (length g.sorts) e, λ none. no_chain (injections g) (length g.sorts) (among (length g.sorts) (injections g) begin) none)
