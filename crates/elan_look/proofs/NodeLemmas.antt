-- What the arguments of a node tell of its patterns.
use Rattle.std.proofs.Common.{◌≡◌, refl, sym, ap, ◌∙◌, ◌⊎◌, inl, inr, ⊎_elim, subst, ℕ, suc, ◌+◌, ◌≤◌, ◌<◌, Bool, true, false, cond, not, Option, Some, None, List, [], ◌∷◌, ◌++◌, length, filter, get_or, option_map, is_some, eq-eqb, ne_eqb, arith}
use Rattle.boxcar.specs.Table.{Where}
use Rattle.elan_terms.specs.declared.tree.OpId.{OpId}
use Rattle.elan_terms.specs.declared.tree.SortId.{SortId}
use Rattle.elan_terms.specs.declared.tree.Term.{Term}
use Rattle.elan_terms.specs.declared.tree.Pattern.{Pattern}
use Rattle.elan_terms.specs.declared.tree.PatternNode as pattern
use Rattle.elan_terms.specs.declared.tree.Shapes.{Shapes}
use Rattle.elan_terms.specs.Trees.{app_term}
use Rattle.elan_terms.specs.Term.{is_ac, arms_under}
use Rattle.elan_terms.specs.Match.{instance}
use Rattle.elan_terms.specs.Ascending.{NotAfter, Ascends}
use Rattle.elan_terms.specs.Canonical.{is_headed, IsCanonical}
use Rattle.elan_terms.proofs.Lists.{In, in_of_contains, contains_of_in, pairs_from}
use Rattle.elan_terms.proofs.MatchLemmas.{instance-var}
use Rattle.elan_terms.proofs.OrderLemmas.{equal-same}
use Rattle.elan_terms.proofs.Sorting.{not_true}
use Rattle.elan_laws.specs.Parts.{SomeOf, times}
use Rattle.elan_laws.proofs.TimesLaws.{some-exactly}
use Rattle.elan_laws.proofs.CanonicalLaws.{canonical_app, true_or_false, arms-other, headed_is}
use Rattle.elan_table.specs.Rows.{MayStand, terms}
use Rattle.elan_bags.specs.Bags.{IsMinus}
use Rattle.elan_arms.specs.Arms.{is_variable_node, is_variable, heads_node, heads, apart_node, taken_apart, arms, times_brought}
use Rattle.elan_arms.proofs.Times.{one_if, times-cons, one_if-same, times_in}
use Rattle.elan_arms.proofs.Nodes.{other-arms, apart-times}
use Rattle.elan_look.specs.declared.low.Low.{Low}
use Rattle.elan_look.specs.declared.low.Low.TheVariants.{Empty, Any}
use Rattle.elan_look.specs.declared.sight.Sight.{Sight}
use Rattle.elan_look.specs.Lows.{is_empty, meet, join}
use Rattle.elan_look.specs.Sights.{value_at, is_given}
use Rattle.elan_look.specs.Tells.{sought_value, Knows, Agrees, Allows, IsTaken, Tells, Makes}
use Rattle.elan_look.specs.Nodes.{settled_of, loose_of, settled, loose, AreLeft, TakesAway, FindsIn, AreThere, IsAmong}
use Rattle.elan_look.proofs.SightLemmas.{given-var}
use Rattle.elan_look.proofs.LowLemmas.{allows-meet, taken-meet, allows-join, join-allows, taken-join}
use Rattle.elan_look.proofs.TellLemmas.{others, others-cons, allows_none}
use Rattle.elan_look.proofs.CountLemmas as counts

pub rows-many : (rows : List (Where Term)) → length rows ≡ length (terms rows)
rows-many [] = refl
rows-many (w ∷ rows) = ap suc (rows-many rows)

-- ---- what patterns bring

module _ (shapes : Shapes) (value : ℕ → Term) (op : OpId) (u : Term) where
  abbrev Brought : List Pattern → ℕ
  Brought = times_brought shapes value op u

  pub brought-append : (ps qs : List Pattern) → times_brought shapes value op u (ps ++ qs) ≡ times_brought shapes value op u ps + times_brought shapes value op u qs
  brought-append [] qs = omega arith
  brought-append (p ∷ ps) qs = let later : Brought (ps ++ qs) ≡ Brought ps + Brought qs = brought-append ps qs in omega arith

  parted_by : (p : Pattern) (xs ys : List Pattern) (b : Bool) → Brought (cond b (p ∷ xs) xs) + Brought (cond (not b) (p ∷ ys) ys) ≡ times u (arms shapes value op p) + (Brought xs + Brought ys)
  parted_by p xs ys true = omega arith
  parted_by p xs ys false = omega arith

  pub brought-parted : (test : Pattern → Bool) (ps : List Pattern) → times_brought shapes value op u (filter test ps) + times_brought shapes value op u (filter (λ q. not (test q)) ps) ≡ times_brought shapes value op u ps
  brought-parted test [] = refl
  brought-parted test (p ∷ ps) =
      let later : Brought (filter test ps) + Brought (filter (λ q. not (test q)) ps) ≡ Brought ps = brought-parted test ps in
      let here : Brought (filter test (p ∷ ps)) + Brought (filter (λ q. not (test q)) (p ∷ ps)) ≡ times u (arms shapes value op p) + (Brought (filter test ps) + Brought (filter (λ q. not (test q)) ps))
      = parted_by p (filter test ps) (filter (λ q. not (test q)) ps) (test p) in omega arith

module _ {N : Type 0} (shapes : Shapes) (s : Sight N) (op : OpId) where
  -- what is settled and what is loose is all
  pub brought-both : (value : ℕ → Term) → is_ac shapes op ≡ true → (u : Term) (ps : List Pattern)
      → times_brought shapes value op u (settled s op ps) + times_brought shapes value op u (loose s op ps) ≡ times_brought shapes value op u ps
  brought-both value ac u ps =
      ap (λ qs. times_brought shapes value op u qs + times_brought shapes value op u (loose s op ps)) (sym (counts.settled-apart s op ps))
      ∙ ap (λ qs. times_brought shapes value op u (filter (is_given s) (taken_apart op ps)) + times_brought shapes value op u qs) (sym (counts.loose-apart s op ps))
      ∙ brought-parted shapes value op u (is_given s) (taken_apart op ps)
      ∙ apart-times shapes value op ac u ps

  -- ---- taking away

  pub take-nothing : (us : List (Where Term)) → Ascends (terms us) → TakesAway shapes s op [] (terms us) (Some us)
  take-nothing us up = record { all = λ value k u. omega arith; ascend = up }

  -- what one known list of terms brings
  some_there : (us vs : List Term) → Ascends us → Ascends vs → ((u : Term) → times u vs ≤ times u us) → SomeOf vs us
  some_there us vs up down le = (some-exactly vs us up).1 (down, le)

  -- the terms that a pattern brings, taken away
  taken_as : (p : Pattern) (us vs : List Term) (found : Option (List (Where Term))) → Ascends us → Ascends vs → ((value : ℕ → Term) → Knows s value → arms shapes value op p ≡ vs)
      → IsMinus us vs (option_map terms found) → TakesAway shapes s op (p ∷ []) us found
  taken_as p us vs None up down are h = λ value a le. h (some_there us vs up down (λ u.
      let all : times_brought shapes value op u (p ∷ []) ≤ times u us = le u in
      let same : times u (arms shapes value op p) ≡ times u vs = ap (times u) (are value a.known) in omega arith))
  taken_as p us vs (Some ws) up down are h = record {
    all = λ value k u. let sum : times u us ≡ times u vs + times u (terms ws) = h.0.all u in
        let same : times u (arms shapes value op p) ≡ times u vs = ap (times u) (are value k) in omega arith;
    ascend = h.1;
  }

  none_given : {A : Type 0} {X : Type 0} (o : Option X) → o ≡ None → is_some o ≡ true → A
  none_given o e g = not_true (sym g ∙ ap is_some e)

  one_ascends : (t : Term) → Ascends (t ∷ [])
  one_ascends t = pairs_from NotAfter (t ∷ []) (tt, tt)

  pub take-found : (p : Pattern) (us : List Term) (row : Where Term) (found : Option (List (Where Term))) → Ascends us → is_variable p ≡ false → heads op p ≡ false → FindsIn shapes s p us (Some row)
      → IsMinus us (row.value ∷ []) (option_map terms found) → TakesAway shapes s op (p ∷ []) us found
  take-found p us row found up whole other is h = taken_as p us (row.value ∷ []) found up (one_ascends row.value)
      (λ value k. other-arms shapes value op p whole other ∙ ap (λ t. t ∷ []) (is value k)) h

  pub take-missing : (p : Pattern) (us : List Term) → is_variable p ≡ false → heads op p ≡ false → FindsIn shapes s p us None → TakesAway shapes s op (p ∷ []) us None
  take-missing p us whole other never = λ value a le.
      let t : Term = instance shapes value p in
      let all : times_brought shapes value op t (p ∷ []) ≤ times t us = le t in
      let same : times t (arms shapes value op p) ≡ times t (t ∷ []) = ap (times t) (other-arms shapes value op p whole other) in
      let mine : one_if t t ≡ 1 = one_if-same t t (equal-same t t refl) in
      never value a (contains_of_in us t (times_in t us (omega (arith, times-cons t t []))))

  -- a row's term brings terms that ascend
  pub row_ascends : (t : Term) → is_ac shapes op ≡ true → MayStand shapes t → Ascends (arms_under op t)
  row_ascends t ac m = ⊎_elim
      (λ e. ((canonical_app shapes op (arms_under op t) (subst (IsCanonical shapes) (headed_is op t e) m.canonical)).0 ac).1)
      (λ e. subst Ascends (sym (arms-other op t e)) (one_ascends t))
      (true_or_false (is_headed op t))

  -- the arguments of a row's term ascend
  pub arguments_ascend : (t : Term) (ts : List Term) → is_ac shapes op ≡ true → t ≡ app_term op ts → MayStand shapes t → Ascends ts
  arguments_ascend t ts ac e m = ((canonical_app shapes op ts (subst (IsCanonical shapes) e m.canonical)).0 ac).1

  pub take-value : (p : Pattern) (x : ℕ) (sort : SortId) (us : List Term) (row : Where Term) (found : Option (List (Where Term))) → p.node ≡ pattern.Var x sort → Some row ≡ value_at s x
      → is_ac shapes op ≡ true → MayStand shapes row.value → Ascends us → IsMinus us (arms_under op row.value) (option_map terms found) → TakesAway shapes s op (settled_of s op p) us found
  take-value p x sort us row found e f ac m up h =
      subst (λ qs. TakesAway shapes s op qs us found) (sym (counts.settled-given s op p (counts.apart_var s op p x sort e) (sym (given-var s p x sort (value_at s x) e refl) ∙ sym (ap is_some f))))
      (taken_as p us (arms_under op row.value) found up (row_ascends row.value ac m)
      (λ value k. ap (arms_under op) (instance-var shapes value p x sort e ∙ k x row (sym f))) h)

  pub take-unknown : (p : Pattern) (x : ℕ) (sort : SortId) (us : List (Where Term)) → p.node ≡ pattern.Var x sort → None ≡ value_at s x → Ascends (terms us) → TakesAway shapes s op (settled_of s op p) (terms us) (Some us)
  take-unknown p x sort us e f up =
      subst (λ qs. TakesAway shapes s op qs (terms us) (Some us)) (sym (counts.settled-open s op p (counts.apart_var s op p x sort e) (sym (given-var s p x sort (value_at s x) e refl) ∙ sym (ap is_some f))))
      (take-nothing us up)

  pub take-settled : (p : Pattern) (us : List Term) (found : Option (List (Where Term))) → apart_node op p.node ≡ p ∷ [] → is_given s p ≡ true → TakesAway shapes s op (p ∷ []) us found → TakesAway shapes s op (settled_of s op p) us found
  take-settled p us found e g h = subst (λ qs. TakesAway shapes s op qs us found) (sym (counts.settled-given s op p e g)) h

  pub take-loose : (p : Pattern) (us : List (Where Term)) → apart_node op p.node ≡ p ∷ [] → is_given s p ≡ false → Ascends (terms us) → TakesAway shapes s op (settled_of s op p) (terms us) (Some us)
  take-loose p us e g up = subst (λ qs. TakesAway shapes s op qs (terms us) (Some us)) (sym (counts.settled-open s op p e g)) (take-nothing us up)

  pub take-nested : (p : Pattern) (f : OpId) (ps qs : List Pattern) (us : List Term) (found : Option (List (Where Term))) → p.node ≡ pattern.App f ps → op.0 ≡ f.0 → qs ≡ ps
      → TakesAway shapes s op (settled s op qs) us found → TakesAway shapes s op (settled_of s op p) us found
  take-nested p f ps qs us found e k is h =
      subst (λ rs. TakesAway shapes s op rs us found) (ap (settled s op) is ∙ sym (counts.settled-nested s op p f ps e (eq-eqb op.0 f.0 k))) h

  -- ---- one pattern after the other

  pub take-none : (ps qs : List Pattern) (us : List Term) → TakesAway shapes s op ps us None → TakesAway shapes s op (ps ++ qs) us None
  take-none ps qs us h = λ value a le. h value a (λ u.
      let all : times_brought shapes value op u (ps ++ qs) ≤ times u us = le u in omega (arith, brought-append shapes value op u ps qs))

  pub take-both : (ps qs : List Pattern) (us : List Term) (ws : List (Where Term)) (found : Option (List (Where Term))) → AreLeft shapes s op ps us (terms ws) → TakesAway shapes s op qs (terms ws) found
      → TakesAway shapes s op (ps ++ qs) us found
  take-both ps qs us ws None h k = λ value a le. k value a (λ u.
      let all : times_brought shapes value op u (ps ++ qs) ≤ times u us = le u in
      let first : times u us ≡ times_brought shapes value op u ps + times u (terms ws) = h.all value a.known u in
      omega (arith, brought-append shapes value op u ps qs))
  take-both ps qs us ws (Some vs) h k = record {
    all = λ value kn u. let first : times u us ≡ times_brought shapes value op u ps + times u (terms ws) = h.all value kn u in
        let later : times u (terms ws) ≡ times_brought shapes value op u qs + times u (terms vs) = k.all value kn u in
        omega (arith, brought-append shapes value op u ps qs);
    ascend = k.ascend;
  }

  pub all-none : (ps : List Pattern) (us : List (Where Term)) → length ps < 1 → Ascends (terms us) → TakesAway shapes s op (settled s op ps) (terms us) (Some us)
  all-none [] us l up = take-nothing us up
  all-none (p ∷ ps) us l up = absurd (omega arith)

  pub all-missing : (ps : List Pattern) (p : Pattern) (us : List Term) → 1 ≤ length ps → p ≡ get_or ps 0 p → TakesAway shapes s op (settled_of s op p) us None → TakesAway shapes s op (settled s op ps) us None
  all-missing [] p us l e h = absurd (omega arith)
  all-missing (q ∷ ps) p us l e h = take-none (settled_of s op q) (settled s op ps) us (subst (λ r. TakesAway shapes s op (settled_of s op r) us None) e h)

  pub all-both : (ps : List Pattern) (p : Pattern) (us : List Term) (ws : List (Where Term)) (found : Option (List (Where Term))) → 1 ≤ length ps → p ≡ get_or ps 0 p
      → TakesAway shapes s op (settled_of s op p) us (Some ws) → TakesAway shapes s op (settled s op (others ps)) (terms ws) found → TakesAway shapes s op (settled s op ps) us found
  all-both [] p us ws found l e h k = absurd (omega arith)
  all-both (q ∷ ps) p us ws found l e h k = take-both (settled_of s op q) (settled s op ps) us ws found
      (subst (λ r. AreLeft shapes s op (settled_of s op r) us (terms ws)) e h)
      (subst (λ rs. TakesAway shapes s op (settled s op rs) (terms ws) found) (others-cons q ps) k)

-- ---- walking along the rows

module _ {N : Type 0} (shapes : Shapes) (s : Sight N) (p : Pattern) where
  -- where the pattern is one of the terms it is one of those that are left
  unfoldable pub Passes : List Term → List Term → Type 0
  Passes us ws = (value : ℕ → Term) → Agrees shapes s value → In (instance shapes value p) us → In (instance shapes value p) ws

  pub passes-all : (us : List Term) → Passes us us
  unfolding Passes
  passes-all us = λ value a i. i

  pub passes-one : (us : List Term) (left : List (Where Term)) (row : Where Term) (low : Low N) → Passes us (terms left) → 1 ≤ length left → row ≡ get_or left 0 row
      → Tells shapes s (is_given s p) (Makes shapes p row.value) low → is_empty low ≡ true → Passes us (terms (others left))
  unfolding Passes Makes
  passes-one us [] row low h l e k n = absurd (omega arith)
  passes-one us (w ∷ left) row low h l e k n = λ value a i. subst (λ ws. In (instance shapes value p) (terms ws)) (sym (others-cons w left))
      (⊎_elim (λ here. absurd (allows_none {N = N} shapes s low (sought_value s.sought value) n (k.prunes value a (here ∙ ap (λ (v : Where Term). v.value) (sym e))))) (λ there. there) (h value a i))

  pub finds-none : (us : List Term) (left : List (Where Term)) → Passes us (terms left) → length left < 1 → FindsIn shapes s p us None
  unfolding Passes
  finds-none us [] h l = λ value a i. elim (h value a (in_of_contains us (instance shapes value p) i)) [ ]
  finds-none us (w ∷ left) h l = absurd (omega arith)

  pub finds-some : (us : List Term) (row w : Where Term) (low : Low N) → is_given s p ≡ true → Tells shapes s (is_given s p) (Makes shapes p row.value) low → is_empty low ≡ false → w ≡ row → FindsIn shapes s p us (Some w)
  unfolding Makes
  finds-some us row w low g h n e = λ value k. h.exact g value k n ∙ ap (λ (v : Where Term). v.value) (sym e)

  -- where the pattern is one of the terms it is one of those that are left, or the value is within the bound
  pub record Covers (us ws : List Term) (low : Low N) : Type 0 where
    pub covers : (value : ℕ → Term) → Agrees shapes s value → In (instance shapes value p) us → In (instance shapes value p) ws ⊎ Allows low (sought_value s.sought value)
    pub taken : IsTaken shapes s low

  pub covers-none : (us : List Term) → Covers us us Empty
  covers-none us = record { covers = λ value a i. inl i; taken = tt }

  pub covers-one : (us : List Term) (left : List (Where Term)) (row : Where Term) (low one both : Low N) → Covers us (terms left) low → 1 ≤ length left → row ≡ get_or left 0 row
      → Tells shapes s (is_given s p) (Makes shapes p row.value) one → both ≡ join low one → Covers us (terms (others left)) both
  unfolding Makes
  covers-one us [] row low one both h l e k is = absurd (omega arith)
  covers-one us (w ∷ left) row low one both h l e k is = subst (Covers us (terms (others (w ∷ left)))) (sym is) (record {
    covers = λ value a i. ⊎_elim
        (λ there. ⊎_elim
        (λ here. inr (join-allows low one (sought_value s.sought value) (k.prunes value a (here ∙ ap (λ (v : Where Term). v.value) (sym e)))))
        (λ later. inl (subst (λ ws. In (instance shapes value p) (terms ws)) (sym (others-cons w left)) later)) there)
        (λ within. inr (allows-join low one (sought_value s.sought value) within)) (h.covers value a i);
    taken = taken-join shapes s low one h.taken k.taken;
  })

  pub covers-all : (us : List Term) (left : List (Where Term)) (low : Low N) → Covers us (terms left) low → length left < 1 → Tells shapes s false (IsAmong shapes p us) low
  unfolding IsAmong
  covers-all us [] low h l = record {
    prunes = λ value a i. ⊎_elim (λ none. elim none [ ]) (λ within. within) (h.covers value a (in_of_contains us (instance shapes value p) i));
    taken = h.taken;
    exact = λ g value k n. not_true (sym g);
  }
  covers-all us (w ∷ left) low h l = absurd (omega arith)

-- ---- bounds inside

module _ {N : Type 0} (shapes : Shapes) (s : Sight N) (op : OpId) (us : List Term) where
  -- nothing is told
  pub tells-nothing : (Fact : (ℕ → Term) → Type 0) → Tells shapes s false Fact Any
  tells-nothing Fact = record { prunes = λ value a f. tt; taken = tt; exact = λ g value k n. not_true (sym g) }

  pub inside-among : (p : Pattern) (f : OpId) (ps : List Pattern) (low : Low N) → p.node ≡ pattern.App f ps → (op.0 ≡ f.0 → ⊥) → is_given s p ≡ false → Tells shapes s false (IsAmong shapes p us) low
      → Tells shapes s false (AreThere shapes op (loose_of s op p) us) low
  unfolding AreThere IsAmong
  inside-among p f ps low e k g h = record {
    prunes = λ value a there.
        let t : Term = instance shapes value p in
        let one : apart_node op p.node ≡ p ∷ [] = counts.apart_other s op p f ps e (ne_eqb op.0 f.0 k) in
        let all : times_brought shapes value op t (loose_of s op p) ≤ times t us = there t in
        let loose_one : times_brought shapes value op t (loose_of s op p) ≡ times_brought shapes value op t (p ∷ []) = ap (times_brought shapes value op t) (counts.loose-open s op p one g) in
        let same : times t (arms shapes value op p) ≡ times t (t ∷ []) = ap (times t) (other-arms shapes value op p (ap is_variable_node e) (ap (heads_node op) e ∙ ne_eqb op.0 f.0 k)) in
        let mine : one_if t t ≡ 1 = one_if-same t t (equal-same t t refl) in
        h.prunes value a (contains_of_in us t (times_in t us (omega (arith, times-cons t t []))));
    taken = h.taken;
    exact = λ gv value kn n. not_true (sym gv);
  }

  pub inside-nested : (p : Pattern) (f : OpId) (ps qs : List Pattern) (low : Low N) → p.node ≡ pattern.App f ps → op.0 ≡ f.0 → qs ≡ ps → Tells shapes s false (AreThere shapes op (loose s op qs) us) low
      → Tells shapes s false (AreThere shapes op (loose_of s op p) us) low
  inside-nested p f ps qs low e k is h =
      subst (λ rs. Tells shapes s false (AreThere shapes op rs us) low) (ap (loose s op) is ∙ sym (counts.loose-nested s op p f ps e (eq-eqb op.0 f.0 k))) h

  first_there : (value : ℕ → Term) (ps qs : List Pattern) → AreThere shapes op (ps ++ qs) us value → AreThere shapes op ps us value
  unfolding AreThere
  first_there value ps qs h u = let all : times_brought shapes value op u (ps ++ qs) ≤ times u us = h u in omega (arith, brought-append shapes value op u ps qs)

  later_there : (value : ℕ → Term) (ps qs : List Pattern) → AreThere shapes op (ps ++ qs) us value → AreThere shapes op qs us value
  unfolding AreThere
  later_there value ps qs h u = let all : times_brought shapes value op u (ps ++ qs) ≤ times u us = h u in omega (arith, brought-append shapes value op u ps qs)

  pub inside-first : (ps : List Pattern) (p : Pattern) (low : Low N) → 1 ≤ length ps → p ≡ get_or ps 0 p → Tells shapes s false (AreThere shapes op (loose_of s op p) us) low → is_empty low ≡ true
      → Tells shapes s false (AreThere shapes op (loose s op ps) us) Empty
  inside-first [] p low l e h n = absurd (omega arith)
  inside-first (q ∷ ps) p low l e h n =
      let k : Tells shapes s false (AreThere shapes op (loose_of s op q) us) low = subst (λ r. Tells shapes s false (AreThere shapes op (loose_of s op r) us) low) e h in record {
        prunes = λ value a there. allows_none shapes s low (sought_value s.sought value) n (k.prunes value a (first_there value (loose_of s op q) (loose s op ps) there));
        taken = tt;
        exact = λ g value kn m. not_true (sym g);
      }

  pub inside-both : (ps : List Pattern) (p : Pattern) (low later both : Low N) → 1 ≤ length ps → p ≡ get_or ps 0 p → Tells shapes s false (AreThere shapes op (loose_of s op p) us) low
      → Tells shapes s false (AreThere shapes op (loose s op (others ps)) us) later → both ≡ meet low later → Tells shapes s false (AreThere shapes op (loose s op ps) us) both
  inside-both [] p low later both l e h m is = absurd (omega arith)
  inside-both (q ∷ ps) p low later both l e h m is =
      let k : Tells shapes s false (AreThere shapes op (loose_of s op q) us) low = subst (λ r. Tells shapes s false (AreThere shapes op (loose_of s op r) us) low) e h in
      let j : Tells shapes s false (AreThere shapes op (loose s op ps) us) later = subst (λ rs. Tells shapes s false (AreThere shapes op (loose s op rs) us) later) (others-cons q ps) m in
      subst (Tells shapes s false (AreThere shapes op (loose s op (q ∷ ps)) us)) (sym is) (record {
        prunes = λ value a there. allows-meet low later (sought_value s.sought value) (k.prunes value a (first_there value (loose_of s op q) (loose s op ps) there))
            (j.prunes value a (later_there value (loose_of s op q) (loose s op ps) there));
        taken = taken-meet shapes s low later k.taken j.taken;
        exact = λ g value kn n. not_true (sym g);
      })
