-- How the arguments that are left are shared out between the sought variable and the other patterns.
use Rattle.std.proofs.Common.{◌≡◌, refl, sym, ap, ◌∙◌, ⊎_elim, subst, ℕ, zero, suc, pos, ◌+◌, ◌*◌, ◌<◌, ◌≤◌, max, map, Bool, true, false, cond, eqb-true, Option, Some, None, List, [], ◌∷◌, ◌++◌, length, length-append, arith}
use Rattle.std.specs.List.{list_all}
use Rattle.boxcar.specs.Table.{Where}
use Rattle.elan_terms.specs.declared.tree.OpId.{OpId}
use Rattle.elan_terms.specs.declared.tree.SortId.{SortId}
use Rattle.elan_terms.specs.declared.tree.Term.{Term}
use Rattle.elan_terms.specs.declared.tree.Pattern.{Pattern}
use Rattle.elan_terms.specs.declared.tree.PatternNode as pattern
use Rattle.elan_terms.specs.declared.tree.Shapes.{Shapes}
use Rattle.elan_terms.specs.Term.{is_ac, arms_under, depth, greatest}
use Rattle.elan_terms.specs.Trees.{int_term, app_term}
use Rattle.elan_terms.specs.Match.{instance}
use Rattle.elan_terms.specs.Valid.{HasSort}
use Rattle.elan_terms.specs.Canonical.{is_headed}
use Rattle.elan_terms.proofs.Lists.{AllOf, In, in_all, all_in, all_of, all_from}
use Rattle.elan_terms.proofs.Sorting.{not_true}
use Rattle.elan_terms.proofs.TermLemmas.{depth-app}
use Rattle.elan_laws.specs.Parts.{times}
use Rattle.elan_laws.proofs.CanonicalLaws.{true_or_false, arms-other, headed_is}
use Rattle.elan_table.specs.Rows.{MayStand}
use Rattle.elan_table.proofs.Depths.{shallow}
use Rattle.elan_bags.proofs.LawLemmas.{share_long}
use Rattle.elan_shares.specs.Shares.{After, IsShare}
use Rattle.elan_arms.specs.Arms.{app_pattern, heads, arms, times_brought}
use Rattle.elan_arms.specs.Values.{IsProper}
use Rattle.elan_arms.proofs.Times.{times-append, times_in, in_times}
use Rattle.elan_arms.proofs.Patterns.{var_pattern, int_pattern, cases_pattern, instance-of_var}
use Rattle.elan_arms.proofs.Nodes.{other-arms, valid-arms}
use Rattle.elan_look.specs.declared.count.Counts.{Counts}
use Rattle.elan_look.specs.declared.sight.Sight.{Sight}
use Rattle.elan_look.specs.declared.low.Low.{Low}
use Rattle.elan_look.specs.declared.low.Low.TheVariants.{Empty}
use Rattle.elan_look.specs.Lows.{is_empty, meet}
use Rattle.elan_look.specs.Sights.{value_at, is_given, is_sought, is_sought_number}
use Rattle.elan_look.specs.Tells.{Knows, Agrees, HasAfter, sought_value, Tells}
use Rattle.elan_look.specs.Nodes.{loose, none_counted, one_more, counted, AreLeft, MayServe, Serve, AreThere, AreShallow, places_of, MayTake, BoundsShare}
use Rattle.elan_look.proofs.LowLemmas.{allows-meet, taken-meet, empty-meet}
use Rattle.elan_look.proofs.TellLemmas.{allows_none}
use Rattle.elan_look.proofs.LeftLemmas.{loose-apart_all, left-inside}

module _ {N : Type 0} (shapes : Shapes) (s : Sight N) (op : OpId) (value : ℕ → Term) (x : ℕ) where
  -- what the sought variable brings
  abbrev Own : Term → ℕ
  Own t = times t (arms_under op (value x))

  -- What patterns bring is what the sought variable brings in its places, and other terms: at least one for each other
  -- variable, and for each pattern that is none exactly one; `c` was counted before.
  pub record Shared (ps : List Pattern) (c : Counts) : Type 0 where
    pub rest : List Term
    pub all : (t : Term) → times_brought shapes value op t ps + c.sought * times t (arms_under op (value x)) ≡ (counted s ps c).sought * times t (arms_under op (value x)) + times t rest
    pub enough : (counted s ps c).free + (counted s ps c).others ≤ length rest + (c.free + c.others)
    pub exactly : (counted s ps c).free ≡ 0 → (c.free ≡ 0) × (length rest + c.others ≡ (counted s ps c).others)

  shared_none : (c : Counts) → Shared [] c
  shared_none c = record { rest = []; all = λ t. omega arith; enough = omega arith; exactly = λ e. (e, omega arith) }

  -- the sought variable once more
  shared_own : (p : Pattern) (ps : List Pattern) (c : Counts) → arms shapes value op p ≡ arms_under op (value x) → one_more s p.node c ≡ record c { sought = c.sought + 1 } → Shared ps (record c { sought = c.sought + 1 }) → Shared (p ∷ ps) c
  shared_own p ps c own is h = record {
    rest = h.rest;
    all = λ t. let later : times_brought shapes value op t ps + (c.sought + 1) * Own t ≡ (counted s ps (record c { sought = c.sought + 1 })).sought * Own t + times t h.rest = h.all t in
        let here : times t (arms shapes value op p) ≡ Own t = ap (times t) own in
        let more : (c.sought + 1) * Own t ≡ c.sought * Own t + Own t = omega arith in
        let same : (counted s ps (one_more s p.node c)).sought * Own t ≡ (counted s ps (record c { sought = c.sought + 1 })).sought * Own t = ap (λ k. (counted s ps k).sought * Own t) is in
        omega arith;
    enough = subst (λ k. (counted s ps k).free + (counted s ps k).others ≤ length h.rest + (c.free + c.others)) (sym is) h.enough;
    exactly = subst (λ k. (counted s ps k).free ≡ 0 → (c.free ≡ 0) × (length h.rest + c.others ≡ (counted s ps k).others)) (sym is) h.exactly;
  }

  -- another pattern, which brings some terms
  shared_other : (p : Pattern) (ps : List Pattern) (c : Counts) → (one_more s p.node c).sought ≡ c.sought
      → (one_more s p.node c).free + (one_more s p.node c).others ≤ length (arms shapes value op p) + (c.free + c.others)
      → ((one_more s p.node c).free ≡ 0 → (c.free ≡ 0) × (length (arms shapes value op p) + c.others ≡ (one_more s p.node c).others))
      → Shared ps (one_more s p.node c) → Shared (p ∷ ps) c
  shared_other p ps c is few one h =
      let long : length (arms shapes value op p ++ h.rest) ≡ length (arms shapes value op p) + length h.rest = length-append (arms shapes value op p) h.rest in record {
        rest = arms shapes value op p ++ h.rest;
        all = λ t. let later : times_brought shapes value op t ps + (one_more s p.node c).sought * Own t ≡ (counted s ps (one_more s p.node c)).sought * Own t + times t h.rest = h.all t in
            let same : (one_more s p.node c).sought * Own t ≡ c.sought * Own t = ap (λ n. n * Own t) is in
            omega (arith, times-append t (arms shapes value op p) h.rest);
        enough = let e : (counted s ps (one_more s p.node c)).free + (counted s ps (one_more s p.node c)).others ≤ length h.rest + ((one_more s p.node c).free + (one_more s p.node c).others) = h.enough in omega arith;
        exactly = λ e. let k : ((one_more s p.node c).free ≡ 0) × (length h.rest + (one_more s p.node c).others ≡ (counted s ps (one_more s p.node c)).others) = h.exactly e in
            let sum : length h.rest + (one_more s p.node c).others ≡ (counted s ps (one_more s p.node c)).others = k.1 in
            let mine : (c.free ≡ 0) × (length (arms shapes value op p) + c.others ≡ (one_more s p.node c).others) = one k.0 in
            let first : length (arms shapes value op p) + c.others ≡ (one_more s p.node c).others = mine.1 in
            (mine.0, omega arith);
      }

  module _ (ac : is_ac shapes op ≡ true) (proper : (y : ℕ) → IsProper shapes (value y)) (only : (y : ℕ) → is_sought s y ≡ true → y ≡ x) where
    one_long : (us : List Term) (t : Term) → us ≡ t ∷ [] → length us ≡ 1
    one_long us t e = ap length e

    var_arms : (y : ℕ) (sort : _) → arms shapes value op (var_pattern y sort) ≡ arms_under op (value y)
    var_arms y sort = ap (arms_under op) (instance-of_var shapes value y sort)

    abbrev Kinds : Counts → Bool → Counts
    Kinds c b = cond b (record c { sought = c.sought + 1 }) (record c { free = c.free + 1 })

    shared_var : (y : ℕ) (sort : _) (ps : List Pattern) (c : Counts) (b : Bool) → is_sought s y ≡ b → Shared ps (one_more s (pattern.Var y sort) c) → Shared (var_pattern y sort ∷ ps) c
    shared_var y sort ps c true e h =
        let is : one_more s (pattern.Var y sort) c ≡ record c { sought = c.sought + 1 } = ap (Kinds c) e in
        shared_own (var_pattern y sort) ps c (var_arms y sort ∙ ap (λ z. arms_under op (value z)) (only y e)) is (subst (Shared ps) is h)
    shared_var y sort ps c false e h =
        let is : one_more s (pattern.Var y sort) c ≡ record c { free = c.free + 1 } = ap (Kinds c) e in
        let some : 1 ≤ length (arms_under op (value y)) = valid-arms shapes value op (value y) ac (proper y).valid in
        let long : length (arms shapes value op (var_pattern y sort)) ≡ length (arms_under op (value y)) = ap length (var_arms y sort) in
        let is_free : (one_more s (pattern.Var y sort) c).free ≡ c.free + 1 = ap (λ (k : Counts). k.free) is in
        let is_others : (one_more s (pattern.Var y sort) c).others ≡ c.others = ap (λ (k : Counts). k.others) is in
        shared_other (var_pattern y sort) ps c (ap (λ (k : Counts). k.sought) is) (omega arith) (λ none. absurd (omega arith)) h

    shared_whole : (p : Pattern) (ps : List Pattern) (c : Counts) → one_more s p.node c ≡ record c { others = c.others + 1 } → length (arms shapes value op p) ≡ 1 → Shared ps (one_more s p.node c) → Shared (p ∷ ps) c
    shared_whole p ps c is one h =
        let is_free : (one_more s p.node c).free ≡ c.free = ap (λ (k : Counts). k.free) is in
        let is_others : (one_more s p.node c).others ≡ c.others + 1 = ap (λ (k : Counts). k.others) is in
        shared_other p ps c (ap (λ (k : Counts). k.sought) is) (omega arith) (λ none. (omega arith, omega arith)) h

    shared_one : (p : Pattern) (ps : List Pattern) (c : Counts) → heads op p ≡ false → Shared ps (one_more s p.node c) → Shared (p ∷ ps) c
    shared_one p ps c = cases_pattern (λ q. heads op q ≡ false → Shared ps (one_more s q.node c) → Shared (q ∷ ps) c)
        (λ y sort h k. shared_var y sort ps c (is_sought s y) refl k)
        (λ z h k. shared_whole (int_pattern z) ps c refl (one_long (arms shapes value op (int_pattern z)) (instance shapes value (int_pattern z)) (other-arms shapes value op (int_pattern z) refl h)) k)
        (λ f qs h k. shared_whole (app_pattern f qs) ps c refl (one_long (arms shapes value op (app_pattern f qs)) (instance shapes value (app_pattern f qs)) (other-arms shapes value op (app_pattern f qs) refl h)) k)
        p

    -- whatever was counted before
    pub shared : (ps : List Pattern) (c : Counts) → AllOf (λ p. heads op p ≡ false) ps → Shared ps c
    shared [] c h = shared_none c
    shared (p ∷ ps) c h = shared_one p ps c h.0 (shared ps (one_more s p.node c) h.1)

-- ---- what is left of the arguments of a node

module _ {N : Type 0} (shapes : Shapes) (s : Sight N) (op : OpId) where
  -- The terms are those that the variable's value brings, so many times as it stands there, and others: at least one for
  -- each other variable and each pattern that is none, and exactly as many where there is no other variable.
  pub record Shares (us : List Term) (c : Counts) (u : Term) : Type 0 where
    pub rest : List Term
    pub all : (t : Term) → times t us ≡ c.sought * times t (arms_under op u) + times t rest
    pub enough : c.free + c.others ≤ length rest
    pub exactly : c.free ≡ 0 → length rest ≡ c.others

  only_number : (o : Option (ℕ × SortId)) (v : ℕ × SortId) (y : ℕ) → o ≡ Some v → is_sought_number o y ≡ true → y ≡ v.0
  only_number o v y e h = sym (eqb-true v.0 y (sym (ap (λ w. is_sought_number w y) e) ∙ h))

  pub serve-shared : (value : ℕ → Term) (v : ℕ × SortId) (ps : List Pattern) (us : List Term) → is_ac shapes op ≡ true → Agrees shapes s value → s.sought ≡ Some v → Serve shapes op (loose s op ps) us value
      → Shares us (counted s (loose s op ps) none_counted) (value v.0)
  unfolding Serve
  serve-shared value v ps us ac a e serve =
      let h : Shared shapes s op value v.0 (loose s op ps) none_counted
      = shared shapes s op value v.0 ac a.proper (λ y k. only_number s.sought v y e k) (loose s op ps) none_counted (loose-apart_all s op ps) in record {
        rest = h.rest;
        all = λ t. let sum : times_brought shapes value op t (loose s op ps) + 0 * times t (arms_under op (value v.0)) ≡ (counted s (loose s op ps) none_counted).sought * times t (arms_under op (value v.0)) + times t h.rest = h.all t in
            let same : times t us ≡ times_brought shapes value op t (loose s op ps) = serve t in omega arith;
        enough = let few : (counted s (loose s op ps) none_counted).free + (counted s (loose s op ps) none_counted).others ≤ length h.rest + 0 = h.enough in omega arith;
        exactly = λ none. let whole : length h.rest + 0 ≡ (counted s (loose s op ps) none_counted).others = (h.exactly none).1 in omega arith;
      }

-- ---- a share may stand in the table

positive_product : (k n : ℕ) → 0 < k → n ≤ k * n
positive_product zero n h = absurd (omega arith)
positive_product (suc k) n h = let e : (k + 1) * n ≡ k * n + n = omega arith in omega arith

depth_by : (op : OpId) (u : Term) → AllOf (λ t. depth t < 2000) (arms_under op u) → depth u ≤ 2000
depth_by op u h = ⊎_elim
    (λ e. subst (λ t. depth t ≤ 2000) (sym (headed_is op u e)) (shallow op (arms_under op u) (all_from (λ t. depth t < 2000) (arms_under op u) h)))
    (λ e. let low : depth u < 2000 = (subst (AllOf (λ t. depth t < 2000)) (arms-other op u e) h).0 in omega arith)
    (true_or_false (is_headed op u))

module _ {N : Type 0} (shapes : Shapes) (s : Sight N) (op : OpId) where
  share_low : (us : List Term) (c : Counts) (u : Term) → 0 < c.sought → AreShallow us → Shares shapes s op us c u → depth u ≤ 2000
  share_low us c u some low h = depth_by op u (all_in (λ t. depth t < 2000) (arms_under op u) (λ t i.
      let there : 1 ≤ times t (arms_under op u) = in_times t (arms_under op u) i in
      let more : times t (arms_under op u) ≤ c.sought * times t (arms_under op u) = positive_product c.sought (times t (arms_under op u)) some in
      let sum : times t us ≡ c.sought * times t (arms_under op u) + times t h.rest = h.all t in
      in_all (λ v. depth v < 2000) us t (all_of (λ v. depth v < 2000) us low) (times_in t us (omega arith))))

  -- the value of the sought variable is one that it may take
  share_of : (value : ℕ → Term) (v : ℕ × SortId) (ps : List Pattern) (us : List Term) → is_ac shapes op ≡ true → AreShallow us → Agrees shapes s value → s.sought ≡ Some v → Serve shapes op (loose s op ps) us value
      → 0 < (counted s (loose s op ps) none_counted).sought → IsShare shapes op us (places_of (counted s (loose s op ps) none_counted)) v.1 s.floor (value v.0)
  share_of value v ps us ac low a e serve some =
      let c : Counts = counted s (loose s op ps) none_counted in
      let h : Shares shapes s op us c (value v.0) = serve-shared shapes s op value v ps us ac a e serve in
      let long : length us ≡ c.sought * length (arms_under op (value v.0)) + length h.rest = share_long c.sought us (arms_under op (value v.0)) h.rest h.all in
      let own : HasSort shapes (value v.0) v.1 × After s.floor (value v.0) = subst (λ o. HasAfter shapes o s.floor value) e a.sought in record {
        may = record { valid = (a.proper v.0).valid; canonical = (a.proper v.0).canonical; low = share_low us c (value v.0) some low h };
        sorted = own.0;
        after = own.1;
        among = λ t. let sum : times t us ≡ c.sought * times t (arms_under op (value v.0)) + times t h.rest = h.all t in omega arith;
        enough = let few : c.free + c.others ≤ length h.rest = h.enough in omega arith;
        exactly = λ none. let whole : length h.rest ≡ c.others = h.exactly none in omega arith;
      }

  pub serve-may_take : (value : ℕ → Term) (ps : List Pattern) (us : List Term) (c : Counts) → c ≡ counted s (loose s op ps) none_counted → is_ac shapes op ≡ true → AreShallow us → Agrees shapes s value
      → Serve shapes op (loose s op ps) us value → MayTake shapes op us c s.sought s.floor (sought_value s.sought value)
  serve-may_take value ps us c is ac low a serve = by_sought s.sought refl
    where
      by_sought : (o : Option (ℕ × SortId)) → s.sought ≡ o → MayTake shapes op us c o s.floor (sought_value o value)
      by_sought None e = tt
      by_sought (Some v) e = subst (λ (k : Counts). 0 < k.sought → IsShare shapes op us (places_of k) v.1 s.floor (value v.0)) (sym is)
          (λ some. share_of value v ps us ac low a e serve some)

  -- ---- bounds

  pub left-own : (ps : List Pattern) (us : List Term) (c : Counts) (own : Low N) → c ≡ counted s (loose s op ps) none_counted → is_ac shapes op ≡ true → AreShallow us → BoundsShare shapes s op us c own → is_empty own ≡ true
      → Tells shapes s (list_all (is_given s) ps) (Serve shapes op (loose s op ps) us) Empty
  left-own ps us c own e ac low h n = record {
    prunes = λ value a serve. allows_none shapes s own (sought_value s.sought value) n (h.least (sought_value s.sought value) (serve-may_take value ps us c e ac low a serve));
    taken = tt;
    exact = λ g value k m. not_true m;
  }

  pub left-both : (ps : List Pattern) (us : List Term) (c : Counts) (many : ℕ) (own inside both : Low N) → c ≡ counted s (loose s op ps) none_counted → many ≡ length us → is_ac shapes op ≡ true → AreShallow us → MayServe c many
      → BoundsShare shapes s op us c own → Tells shapes s false (AreThere shapes op (loose s op ps) us) inside → both ≡ meet own inside
      → Tells shapes s (list_all (is_given s) ps) (Serve shapes op (loose s op ps) us) both
  left-both ps us c many own inside both e l ac low m h k is =
      let j : Tells shapes s (list_all (is_given s) ps) (Serve shapes op (loose s op ps) us) inside = left-inside shapes s op ac ps us c many inside e l m k in
      subst (Tells shapes s (list_all (is_given s) ps) (Serve shapes op (loose s op ps) us)) (sym is) (record {
        prunes = λ value a serve. allows-meet own inside (sought_value s.sought value)
            (h.least (sought_value s.sought value) (serve-may_take value ps us c e ac low a serve)) (j.prunes value a serve);
        taken = taken-meet shapes s own inside h.taken j.taken;
        exact = λ g value kn n. j.exact g value kn (empty-meet own inside n).1;
      })

  -- ---- arguments that may stand under an operator

  value_or : Option (Where Term) → Term
  value_or None = int_term (pos 0)
  value_or (Some row) = row.value

  -- values that are as they are known
  some_value : ℕ → Term
  some_value x = value_or (value_at s x)

  some_knows : Knows s some_value
  unfolding value_or some_value
  some_knows x row e = ap value_or e

  pub left_shallow : (ps : List Pattern) (us ws : List Term) → AreLeft shapes s op ps us ws → AreShallow us → AreShallow ws
  left_shallow ps us ws h low = all_from (λ t. depth t < 2000) ws (all_in (λ t. depth t < 2000) ws (λ t i.
      let there : 1 ≤ times t ws = in_times t ws i in
      let sum : times t us ≡ times_brought shapes some_value op t ps + times t ws = h.all some_value some_knows t in
      in_all (λ v. depth v < 2000) us t (all_of (λ v. depth v < 2000) us low) (times_in t us (omega arith))))

within_max : (m n : ℕ) → (m ≤ max m n) × (n ≤ max m n)
within_max m n = (omega arith, omega arith)

not_deeper : (ts : List Term) (t : Term) → In t ts → depth t ≤ greatest (map depth ts)
not_deeper [] t i = elim i [ ]
not_deeper (u ∷ ts) t i = ⊎_elim
    (λ e. let same : depth t ≡ depth u = ap depth e in let k : (depth u ≤ max (depth u) (greatest (map depth ts))) × (greatest (map depth ts) ≤ max (depth u) (greatest (map depth ts))) = within_max (depth u) (greatest (map depth ts)) in
    let le : depth u ≤ max (depth u) (greatest (map depth ts)) = k.0 in omega arith)
    (λ j. let later : depth t ≤ greatest (map depth ts) = not_deeper ts t j in let k : (depth u ≤ max (depth u) (greatest (map depth ts))) × (greatest (map depth ts) ≤ max (depth u) (greatest (map depth ts))) = within_max (depth u) (greatest (map depth ts)) in
    let le : greatest (map depth ts) ≤ max (depth u) (greatest (map depth ts)) = k.1 in omega arith)
    i

-- the arguments of a row's term may stand under an operator
pub arguments_shallow : (shapes : Shapes) (op : OpId) (t : Term) (ts : List Term) → t ≡ app_term op ts → MayStand shapes t → AreShallow ts
arguments_shallow shapes op t ts e m = all_from (λ u. depth u < 2000) ts (all_in (λ u. depth u < 2000) ts (λ u i.
    let here : depth (app_term op ts) ≡ 1 + greatest (map depth ts) = depth-app (app_term op ts) op ts refl in
    let same : depth t ≡ depth (app_term op ts) = ap depth e in
    let low : depth t ≤ 2000 = m.low in
    let one : depth u ≤ greatest (map depth ts) = not_deeper ts u i in omega arith))
