-- What bounds tell of variables, integers and operators that are not associative and commutative.
use Rattle.std.proofs.Common.{◌≡◌, refl, sym, ap, ◌∙◌, subst, ℕ, ℤ, Bool, true, false, ◌&&◌, Decides, Option, Some, None, List, [], ◌∷◌, length, is_some, ◌<◌, get_or, arith, ◌≤◌, ◌-◌, take, drop, take_all}
use Rattle.std.specs.List.{list_all}
use Rattle.boxcar.specs.Table.{Where}
use Rattle.elan_terms.specs.declared.tree.OpId.{OpId}
use Rattle.elan_terms.specs.declared.tree.SortId.{SortId}
use Rattle.elan_terms.specs.declared.tree.Term.{Term}
use Rattle.elan_terms.specs.declared.tree.TermNode as term
use Rattle.elan_terms.specs.declared.tree.Pattern.{Pattern}
use Rattle.elan_terms.specs.declared.tree.PatternNode as pattern
use Rattle.elan_terms.specs.declared.tree.Shapes.{Shapes}
use Rattle.elan_terms.specs.Trees.{int_term, app_term}
use Rattle.elan_terms.specs.Term.{is_ac}
use Rattle.elan_terms.specs.Match.{instance, may_fit}
use Rattle.elan_terms.proofs.HeadLemmas.{may_fit-app_int}
use Rattle.elan_terms.proofs.MatchLemmas.{instance-var, instance-int}
use Rattle.elan_terms.proofs.Sorting.{not_true}
use Rattle.elan_table.specs.Rows.{terms}
use Rattle.elan_arms.specs.Arms.{app_pattern}
use Rattle.elan_arms.proofs.Patterns.{same_operators}
use Rattle.elan_arms.proofs.Nodes.{some_arguments}
use Rattle.elan_arms.proofs.Places.{plain-places, places-plain, instance-fits}
use Rattle.elan_look.specs.declared.low.Low.{Low}
use Rattle.elan_look.specs.declared.low.Low.TheVariants.{Empty, Any, At}
use Rattle.elan_look.specs.declared.sight.Sight.{Sight}
use Rattle.elan_look.specs.Lows.{is_empty, meet, any_if}
use Rattle.elan_look.specs.Sights.{value_at, is_sought, is_sought_number, is_given}
use Rattle.elan_look.specs.Tells.{Takes, HasAfter, sought_value, Allows, Tells, Has, Makes, MakeEach}
use Rattle.elan_look.proofs.SightLemmas.{given-var, given-app}
use Rattle.elan_look.proofs.LowLemmas.{allows-meet, taken-meet, empty-meet, at-allows}

-- ---- facts

-- ---- integers

int_inside : (z y : ℤ) → int_term z ≡ int_term y → z ≡ y
int_inside z y e = inside (ap (λ t. t.node) e)
  where
    inside : term.Int z ≡ term.Int y → z ≡ y
    inside f = cc

pub integer-same : (t : Term) (z y : ℤ) → t ≡ int_term y → y ≡ z → t ≡ int_term z
integer-same t z y e f = e ∙ ap int_term f

pub integer-is : (t : Term) (z y : ℤ) → t ≡ int_term y → t ≡ int_term z → y ≡ z
integer-is t z y e f = int_inside y z (sym e ∙ f)

pub integer-no : (t : Term) (z : ℤ) (f : OpId) (ts : List Term) → t ≡ app_term f ts → t ≡ int_term z → ⊥
integer-no t z f ts e h = differ (ap (λ u. u.node) (sym h ∙ e))
  where
    differ : term.Int z ≡ term.App f ts → ⊥
    differ k = cc

pub ruleset integers = (integer-same, integer-is, integer-no)

-- the items after the first
abbrev pub others : {X : Type 0} → List X → List X
others xs = take (length xs - 1) (drop 1 xs)

pub others-cons : {X : Type 0} (x : X) (xs : List X) → others (x ∷ xs) ≡ xs
others-cons x xs = let le : length xs ≤ length (x ∷ xs) - 1 = omega arith in take_all (length (x ∷ xs) - 1) xs le

module _ {N : Type 0} (shapes : Shapes) (s : Sight N) where
  -- where the fact never holds
  pub tells-never : (given : Bool) (Fact : (ℕ → Term) → Type 0) → ((value : ℕ → Term) → Fact value → ⊥) → Tells shapes s given Fact Empty
  tells-never given Fact never = record { prunes = λ value a f. never value f; taken = tt; exact = λ g value k e. not_true e }

  -- what tells of a fact tells of another that holds where it does
  pub tells-same : (given given' : Bool) (Fact Other : (ℕ → Term) → Type 0) (low : Low N) → (given' ≡ true → given ≡ true) → ((value : ℕ → Term) → Other value → Fact value) → ((value : ℕ → Term) → Fact value → Other value)
      → Tells shapes s given Fact low → Tells shapes s given' Other low
  tells-same given given' Fact Other low g on back h = record {
    prunes = λ value a f. h.prunes value a (on value f);
    taken = h.taken;
    exact = λ e value k n. back value (h.exact (g e) value k n);
  }

  -- ---- variables

  pub tells-known : (x : ℕ) (t : Term) (row : Where Term) (r : Bool) → Some row ≡ value_at s x → Decides r (row.value ≡ t) → Tells shapes s (is_some (value_at s x)) (Has x t) (any_if r)
  unfolding Has
  tells-known x t row true e d = record {
    prunes = λ value a f. tt;
    taken = tt;
    exact = λ g value k n. k x row (sym e) ∙ d.0 refl;
  }
  tells-known x t row false e d = record {
    prunes = λ value a f. not_true (sym (d.1 (sym (a.known x row (sym e)) ∙ f)));
    taken = tt;
    exact = λ g value k n. not_true n;
  }

  none_given : {A : Type 0} (x : ℕ) → None ≡ value_at s x → is_some (value_at s x) ≡ true → A
  none_given x e g = not_true (sym g ∙ sym (ap is_some e))

  pub tells-open : (x : ℕ) (t : Term) → None ≡ value_at s x → Tells shapes s (is_some (value_at s x)) (Has x t) Any
  tells-open x t e = record { prunes = λ value a f. tt; taken = tt; exact = λ g value k n. none_given x e g }

  sought_is : (sought : Option (ℕ × SortId)) (x : ℕ) (value : ℕ → Term) → is_sought_number sought x ≡ true → sought_value sought value ≡ value x
  sought_is None x value e = not_true (sym e)
  sought_is (Some v) x value e = let same : v.0 ≡ x = grind arith in ap value same

  sought_takes : (sought : Option (ℕ × SortId)) (floor : Option (Where Term)) (x : ℕ) (value : ℕ → Term) (t : Term) → is_sought_number sought x ≡ true → HasAfter shapes sought floor value → value x ≡ t → Takes shapes sought floor t
  sought_takes None floor x value t e h f = not_true (sym e)
  sought_takes (Some v) floor x value t e h f = let same : v.0 ≡ x = grind arith in
      subst (Takes shapes (Some v) floor) (ap value same ∙ f) h

  pub tells-at : (x : ℕ) (t : Term) (row : Where Term) → None ≡ value_at s x → is_sought s x ≡ true → row.value ≡ t → Takes shapes s.sought s.floor t → Tells shapes s (is_some (value_at s x)) (Has x t) (At row)
  unfolding Has
  tells-at x t row e q is h = record {
    prunes = λ value a f. at-allows row (sought_value s.sought value) (is ∙ sym f ∙ sym (sought_is s.sought x value q));
    taken = subst (Takes shapes s.sought s.floor) (sym is) h;
    exact = λ g value k n. none_given x e g;
  }

  pub tells-not : (x : ℕ) (t : Term) (r : Bool) → None ≡ value_at s x → is_sought s x ≡ true → Decides r (Takes shapes s.sought s.floor t) → r ≡ false → Tells shapes s (is_some (value_at s x)) (Has x t) Empty
  unfolding Has
  tells-not x t r e q d off = record {
    prunes = λ value a f. not_true (sym (d.1 (sought_takes s.sought s.floor x value t q a.sought f)) ∙ off);
    taken = tt;
    exact = λ g value k n. not_true n;
  }

  pub tells-test : (x : ℕ) (t : Term) (row : Where Term) (r : Bool) (low : Low N) → low ≡ any_if r → Some row ≡ value_at s x → Decides r (row.value ≡ t) → Tells shapes s (is_some (value_at s x)) (Has x t) low
  tells-test x t row r low is e d = subst (Tells shapes s (is_some (value_at s x)) (Has x t)) (sym is) (tells-known x t row r e d)

pub ruleset variables = (tells-test, tells-open, tells-at, tells-not)

module _ {N : Type 0} (shapes : Shapes) (s : Sight N) where
  -- ---- patterns

  pub looks-var : (p : Pattern) (x : ℕ) (sort : SortId) (t : Term) (low : Low N) → p.node ≡ pattern.Var x sort → Tells shapes s (is_some (value_at s x)) (Has x t) low → Tells shapes s (is_given s p) (Makes shapes p t) low
  unfolding Has Makes
  looks-var p x sort t low e h = tells-same shapes s (is_some (value_at s x)) (is_given s p) (Has x t) (Makes shapes p t) low
      (λ g. given-var s p x sort (value_at s x) e refl ∙ g)
      (λ value f. sym (instance-var shapes value p x sort e) ∙ f)
      (λ value f. instance-var shapes value p x sort e ∙ f) h

  looks-integer : (p : Pattern) (z : ℤ) (t : Term) (r : Bool) → p.node ≡ pattern.Int z → Decides r (t ≡ int_term z) → Tells shapes s (is_given s p) (Makes shapes p t) (any_if r)
  unfolding Makes
  looks-integer p z t true e d = record {
    prunes = λ value a m. tt;
    taken = tt;
    exact = λ g value k n. instance-int shapes value p z e ∙ sym (d.0 refl);
  }
  looks-integer p z t false e d = record {
    prunes = λ value a m. not_true (sym (d.1 (sym m ∙ instance-int shapes value p z e)));
    taken = tt;
    exact = λ g value k n. not_true n;
  }

  pub looks-test : (p : Pattern) (z : ℤ) (t : Term) (low : Low N) (r : Bool) → low ≡ any_if r → Decides r (t ≡ int_term z) → p.node ≡ pattern.Int z → Tells shapes s (is_given s p) (Makes shapes p t) low
  looks-test p z t low r is d e = subst (Tells shapes s (is_given s p) (Makes shapes p t)) (sym is) (looks-integer p z t r e d)

  unfit : (p : Pattern) (t : Term) → false ≡ may_fit p t → (value : ℕ → Term) → instance shapes value p ≡ t → ⊥
  unfit p t e value m = not_true (sym (instance-fits shapes value p t m) ∙ sym e)

  pub looks-app_int : (p : Pattern) (op : OpId) (ps : List Pattern) (t : Term) (y : ℤ) → p.node ≡ pattern.App op ps → t ≡ int_term y → Tells shapes s (is_given s p) (Makes shapes p t) Empty
  unfolding Makes
  looks-app_int p op ps t y e h = tells-never shapes s (is_given s p) (Makes shapes p t) (unfit p t (may_fit-app_int p t op ps y e (ap (λ u. u.node) h)))

  -- a pattern by its node
  pub by_node : (p : Pattern) (op : OpId) (ps : List Pattern) → p.node ≡ pattern.App op ps → p ≡ app_pattern op ps
  by_node p op ps e = ap (λ n. record { node = n }) e

  other_operators : (op f : OpId) (ps : List Pattern) (ts : List Term) → (op.0 ≡ f.0 → ⊥) → (value : ℕ → Term) → instance shapes value (app_pattern op ps) ≡ app_term f ts → ⊥
  other_operators op f ps ts n value m =
      let k : (us : List Term) × (instance shapes value (app_pattern op ps) ≡ app_term op us) = some_arguments shapes value op ps in
      n (ap (λ (g : OpId). g.0) (same_operators op f k.0 ts (sym k.1 ∙ m)))

  pub looks-others : (p : Pattern) (op f : OpId) (ps : List Pattern) (t : Term) (ts : List Term) → p.node ≡ pattern.App op ps → t ≡ app_term f ts → (op.0 ≡ f.0 → ⊥) → Tells shapes s (is_given s p) (Makes shapes p t) Empty
  unfolding Makes
  looks-others p op f ps t ts e h n = tells-never shapes s (is_given s p) (Makes shapes p t)
      (λ value m. other_operators op f ps ts n value (ap (instance shapes value) (sym (by_node p op ps e)) ∙ m ∙ h))

  pub looks-plain : (p : Pattern) (op f : OpId) (ps : List Pattern) (t : Term) (ts : List Term) (low : Low N) → p.node ≡ pattern.App op ps → t ≡ app_term f ts → op.0 ≡ f.0 → is_ac shapes op ≡ false
      → Tells shapes s (list_all (is_given s) ps) (MakeEach shapes ps ts) low → Tells shapes s (is_given s p) (Makes shapes p t) low
  unfolding Makes MakeEach
  looks-plain p op f ps t ts low e h one plain k = tells-same shapes s (list_all (is_given s) ps) (is_given s p) (MakeEach shapes ps ts) (Makes shapes p t) low
      (λ g. sym (given-app s p op ps e) ∙ g)
      (λ value m. (plain-places shapes value op f ps ts plain (ap (instance shapes value) (sym (by_node p op ps e)) ∙ m ∙ h)).1)
      (λ value m. ap (instance shapes value) (by_node p op ps e) ∙ places-plain shapes value op f ps ts plain (ap (λ (n : ℕ). record { 0 = n }) one) m ∙ sym h) k

-- ---- patterns and rows side by side

module _ {N : Type 0} (shapes : Shapes) (s : Sight N) where
  pub each-none : Tells shapes s (list_all (is_given s) []) (MakeEach shapes [] []) Any
  unfolding MakeEach
  each-none = record { prunes = λ value a m. tt; taken = tt; exact = λ g value k n. tt }

  pub each-more_rows : (t : Term) (ts : List Term) → Tells shapes s (list_all (is_given s) []) (MakeEach shapes [] (t ∷ ts)) Empty
  unfolding MakeEach
  each-more_rows t ts = tells-never shapes s true (MakeEach shapes [] (t ∷ ts)) (λ value m. m)

  pub each-more_patterns : (p : Pattern) (ps : List Pattern) → Tells shapes s (list_all (is_given s) (p ∷ ps)) (MakeEach shapes (p ∷ ps) []) Empty
  unfolding MakeEach
  each-more_patterns p ps = tells-never shapes s (is_given s p && list_all (is_given s) ps) (MakeEach shapes (p ∷ ps) []) (λ value m. m)

  pub allows_none : (low : Low N) (u : Term) → is_empty low ≡ true → Allows low u → ⊥
  allows_none Empty u e h = h
  allows_none Any u e h = not_true (sym e)
  allows_none (At a) u e h = not_true (sym e)

  pub each-first : (p : Pattern) (ps : List Pattern) (t : Term) (ts : List Term) (low : Low N) → Tells shapes s (is_given s p) (Makes shapes p t) low → is_empty low ≡ true
      → Tells shapes s (list_all (is_given s) (p ∷ ps)) (MakeEach shapes (p ∷ ps) (t ∷ ts)) Empty
  unfolding Makes MakeEach
  each-first p ps t ts low h e = record {
    prunes = λ value a m. allows_none low (sought_value s.sought value) e (h.prunes value a m.0);
    taken = tt;
    exact = λ g value k n. not_true n;
  }

  pub both_true : (a b : Bool) → a && b ≡ true → (a ≡ true) × (b ≡ true)
  both_true true b e = (refl, e)
  both_true false b e = not_true (sym e)

  pub each-both : (p : Pattern) (ps : List Pattern) (t : Term) (ts : List Term) (low later : Low N) → Tells shapes s (is_given s p) (Makes shapes p t) low
      → Tells shapes s (list_all (is_given s) ps) (MakeEach shapes ps ts) later → Tells shapes s (list_all (is_given s) (p ∷ ps)) (MakeEach shapes (p ∷ ps) (t ∷ ts)) (meet low later)
  unfolding Makes MakeEach
  each-both p ps t ts low later h k = record {
    prunes = λ value a m. allows-meet low later (sought_value s.sought value) (h.prunes value a m.0) (k.prunes value a m.1);
    taken = taken-meet shapes s low later h.taken k.taken;
    exact = λ g value kn n. let b : (is_empty low ≡ false) × (is_empty later ≡ false) = empty-meet low later n in
        let gs : (is_given s p ≡ true) × (list_all (is_given s) ps ≡ true) = both_true (is_given s p) (list_all (is_given s) ps) g in
        (h.exact gs.0 value kn b.0, k.exact gs.1 value kn b.1);
  }

  -- the same of lists whose first items are at hand

  pub at_none : (ps : List Pattern) (ws : List (Where Term)) → length ps < 1 → length ws < 1 → Tells shapes s (list_all (is_given s) ps) (MakeEach shapes ps (terms ws)) Any
  at_none [] [] l k = each-none
  at_none [] (w ∷ ws) l k = absurd (omega arith)
  at_none (p ∷ ps) ws l k = absurd (omega arith)

  pub at_rows : (ps : List Pattern) (ws : List (Where Term)) → length ps < 1 → 1 ≤ length ws → Tells shapes s (list_all (is_given s) ps) (MakeEach shapes ps (terms ws)) Empty
  at_rows [] [] l k = absurd (omega arith)
  at_rows [] (w ∷ ws) l k = each-more_rows w.value (terms ws)
  at_rows (p ∷ ps) ws l k = absurd (omega arith)

  pub at_patterns : (ps : List Pattern) (ws : List (Where Term)) → 1 ≤ length ps → length ws < 1 → Tells shapes s (list_all (is_given s) ps) (MakeEach shapes ps (terms ws)) Empty
  at_patterns [] ws l k = absurd (omega arith)
  at_patterns (p ∷ ps) [] l k = each-more_patterns p ps
  at_patterns (p ∷ ps) (w ∷ ws) l k = absurd (omega arith)

  pub at_first : (ps : List Pattern) (ws : List (Where Term)) (p : Pattern) (w : Where Term) (low : Low N) → 1 ≤ length ps → p ≡ get_or ps 0 p → 1 ≤ length ws → w ≡ get_or ws 0 w
      → Tells shapes s (is_given s p) (Makes shapes p w.value) low → true ≡ is_empty low → Tells shapes s (list_all (is_given s) ps) (MakeEach shapes ps (terms ws)) Empty
  at_first [] ws p w low l e k f h n = absurd (omega arith)
  at_first (q ∷ ps) [] p w low l e k f h n = absurd (omega arith)
  at_first (q ∷ ps) (v ∷ ws) p w low l e k f h n =
      each-first q ps v.value (terms ws) low (subst (λ (u : Where Term). Tells shapes s (is_given s q) (Makes shapes q u.value) low) f (subst (λ r. Tells shapes s (is_given s r) (Makes shapes r w.value) low) e h)) (sym n)

  pub at_both : (ps : List Pattern) (ws : List (Where Term)) (p : Pattern) (w : Where Term) (low later both : Low N) → 1 ≤ length ps → p ≡ get_or ps 0 p → 1 ≤ length ws → w ≡ get_or ws 0 w
      → Tells shapes s (is_given s p) (Makes shapes p w.value) low → Tells shapes s (list_all (is_given s) (others ps)) (MakeEach shapes (others ps) (terms (others ws))) later
      → both ≡ meet low later → Tells shapes s (list_all (is_given s) ps) (MakeEach shapes ps (terms ws)) both
  at_both [] ws p w low later both l e k f h m is = absurd (omega arith)
  at_both (q ∷ ps) [] p w low later both l e k f h m is = absurd (omega arith)
  at_both (q ∷ ps) (v ∷ ws) p w low later both l e k f h m is =
      subst (Tells shapes s (list_all (is_given s) (q ∷ ps)) (MakeEach shapes (q ∷ ps) (terms (v ∷ ws)))) (sym is)
      (each-both q ps v.value (terms ws) low later (subst (λ (u : Where Term). Tells shapes s (is_given s q) (Makes shapes q u.value) low) f (subst (λ r. Tells shapes s (is_given s r) (Makes shapes r w.value) low) e h))
      (subst (λ rs. Tells shapes s (list_all (is_given s) rs) (MakeEach shapes rs (terms ws)) later) (others-cons q ps)
      (subst (λ us. Tells shapes s (list_all (is_given s) (others (q ∷ ps))) (MakeEach shapes (others (q ∷ ps)) (terms us)) later) (others-cons v ws) m)))
