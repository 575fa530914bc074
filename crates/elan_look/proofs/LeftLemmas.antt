-- What is left of the arguments of a node serves the patterns that are left.
use Rattle.std.proofs.Common.{◌≡◌, refl, sym, ap, ◌∙◌, ⊎_elim, subst, ℕ, ◌+◌, ◌≤◌, ◌==◌, Bool, true, false, cond, not, ◌&&◌, Decides, Some, None, List, [], ◌∷◌, ◌++◌, length, filter, arith}
use Rattle.std.specs.List.{list_all}
use Rattle.boxcar.specs.Table.{Where}
use Rattle.elan_terms.specs.declared.tree.OpId.{OpId}
use Rattle.elan_terms.specs.declared.tree.Term.{Term}
use Rattle.elan_terms.specs.declared.tree.Pattern.{Pattern}
use Rattle.elan_terms.specs.declared.tree.PatternNode as pattern
use Rattle.elan_terms.specs.declared.tree.Shapes.{Shapes}
use Rattle.elan_terms.specs.Trees.{app_term}
use Rattle.elan_terms.specs.Term.{is_ac, arms_under}
use Rattle.elan_terms.specs.Match.{instance}
use Rattle.elan_terms.specs.Ascending.{Ascends}
use Rattle.elan_terms.proofs.Lists.{AllOf}
use Rattle.elan_terms.proofs.Sorting.{not_true, ascending-length}
use Rattle.elan_laws.specs.Parts.{times}
use Rattle.elan_laws.proofs.CanonicalLaws.{true_or_false}
use Rattle.elan_table.specs.Rows.{terms}
use Rattle.elan_arms.specs.Arms.{app_pattern, heads, taken_apart, arms, times_brought, many_brought}
use Rattle.elan_arms.specs.Values.{IsProper}
use Rattle.elan_arms.proofs.Times.{ascending-alike}
use Rattle.elan_arms.proofs.Patterns.{var_pattern, int_pattern, ind_pattern, cases_pattern, instance-of_var}
use Rattle.elan_arms.proofs.Nodes.{all_arms, arms-times, arms-many, other-arms, valid-arms, arguments-times, times-arguments, none-headed}
use Rattle.elan_look.specs.declared.low.Low.{Low}
use Rattle.elan_look.specs.declared.low.Low.TheVariants.{Empty}
use Rattle.elan_look.specs.declared.count.Counts.{Counts}
use Rattle.elan_look.specs.declared.sight.Sight.{Sight}
use Rattle.elan_look.specs.Sights.{is_given, is_sought}
use Rattle.elan_look.specs.Tells.{Tells, Makes, MakeNode}
use Rattle.elan_look.specs.Nodes.{loose_of, settled, loose, TakesAway, none_counted, MayServe, one_more, counted, Serve, AreThere}
use Rattle.elan_look.proofs.SightLemmas.{given-app}
use Rattle.elan_look.proofs.TellLemmas.{tells-same, by_node}
use Rattle.elan_look.proofs.CountLemmas as counts
use Rattle.elan_look.proofs.NodeLemmas.{brought-both}

-- ---- how many terms patterns bring

module _ (shapes : Shapes) (op : OpId) (ac : is_ac shapes op ≡ true) (value : ℕ → Term) where
  one_long : (us : List Term) (t : Term) → us ≡ t ∷ [] → length us ≡ 1
  one_long us t e = ap length e

  -- a pattern that the operator does not head brings at least one
  brings : ((x : ℕ) → IsProper shapes (value x)) → (p : Pattern) → heads op p ≡ false → 1 ≤ length (arms shapes value op p)
  brings proper = cases_pattern (λ p. heads op p ≡ false → 1 ≤ length (arms shapes value op p))
      (λ x sort h. subst (λ t. 1 ≤ length (arms_under op t)) (sym (instance-of_var shapes value x sort)) (valid-arms shapes value op (value x) ac (proper x).valid))
      (λ z h. let one : length (arms shapes value op (int_pattern z)) ≡ 1 = one_long (arms shapes value op (int_pattern z)) (instance shapes value (int_pattern z)) (other-arms shapes value op (int_pattern z) refl h) in omega arith)
      (λ f ps h. let one : length (arms shapes value op (app_pattern f ps)) ≡ 1 = one_long (arms shapes value op (app_pattern f ps)) (instance shapes value (app_pattern f ps)) (other-arms shapes value op (app_pattern f ps) refl h) in omega arith)

  all_bring : ((x : ℕ) → IsProper shapes (value x)) → (ps : List Pattern) → AllOf (λ p. heads op p ≡ false) ps → length ps ≤ many_brought shapes value op ps
  all_bring proper [] h = omega arith
  all_bring proper (p ∷ ps) h =
      let here : 1 ≤ length (arms shapes value op p) = brings proper p h.0 in
      let later : length ps ≤ many_brought shapes value op ps = all_bring proper ps h.1 in omega arith

  -- terms that serve the patterns are as many as these bring
  serve-many : (ps : List Pattern) (us : List Term) → Serve shapes op ps us value → length us ≡ many_brought shapes value op ps
  unfolding Serve
  serve-many ps us h = sym (ascending-length us)
      ∙ ap length (ascending-alike us (all_arms shapes value op ps) (λ u. h u ∙ sym (arms-times shapes value op u ps)))
      ∙ ascending-length (all_arms shapes value op ps) ∙ arms-many shapes value op ps

  module _ {N : Type 0} (s : Sight N) where
    more_total : (p : Pattern) (c : Counts) → (one_more s p.node c).sought + (one_more s p.node c).free + (one_more s p.node c).others ≡ 1 + (c.sought + c.free + c.others)
    more_total p c = cases_pattern (λ q. (one_more s q.node c).sought + (one_more s q.node c).free + (one_more s q.node c).others ≡ 1 + (c.sought + c.free + c.others))
        (λ x sort. by_kind (is_sought s x)) (λ z. omega arith) (λ f ps. omega arith) p
      where
        by_kind : (b : Bool) → (cond b (record c { sought = c.sought + 1 }) (record c { free = c.free + 1 })).sought + (cond b (record c { sought = c.sought + 1 }) (record c { free = c.free + 1 })).free
            + (cond b (record c { sought = c.sought + 1 }) (record c { free = c.free + 1 })).others ≡ 1 + (c.sought + c.free + c.others)
        by_kind true = omega arith
        by_kind false = omega arith

    -- all are counted
    counted-total : (ps : List Pattern) (c : Counts) → (counted s ps c).sought + (counted s ps c).free + (counted s ps c).others ≡ length ps + (c.sought + c.free + c.others)
    counted-total [] c = omega arith
    counted-total (p ∷ ps) c =
        let later : (counted s ps (one_more s p.node c)).sought + (counted s ps (one_more s p.node c)).free + (counted s ps (one_more s p.node c)).others
        ≡ length ps + ((one_more s p.node c).sought + (one_more s p.node c).free + (one_more s p.node c).others) = counted-total ps (one_more s p.node c) in
        let here : (one_more s p.node c).sought + (one_more s p.node c).free + (one_more s p.node c).others ≡ 1 + (c.sought + c.free + c.others) = more_total p c in omega arith

    -- where no variable is counted, each pattern brings one term
    record IsWhole (p : Pattern) (c : Counts) : Type 0 where
      no_sought : c.sought + c.free ≡ 0
      one : length (arms shapes value op p) + c.others ≡ (one_more s p.node c).others

    whole_one : (p : Pattern) (c : Counts) → heads op p ≡ false → (one_more s p.node c).sought + (one_more s p.node c).free ≡ 0 → IsWhole p c
    whole_one p c = cases_pattern (λ q. heads op q ≡ false → (one_more s q.node c).sought + (one_more s q.node c).free ≡ 0 → IsWhole q c)
        (λ x sort h e. absurd (by_kind (is_sought s x) e))
        (λ z h e. record { no_sought = e; one = let one : length (arms shapes value op (int_pattern z)) ≡ 1 = one_long (arms shapes value op (int_pattern z)) (instance shapes value (int_pattern z)) (other-arms shapes value op (int_pattern z) refl h) in omega arith })
        (λ f ps h e. record { no_sought = e; one = let one : length (arms shapes value op (app_pattern f ps)) ≡ 1 = one_long (arms shapes value op (app_pattern f ps)) (instance shapes value (app_pattern f ps)) (other-arms shapes value op (app_pattern f ps) refl h) in omega arith })
        p
      where
        by_kind : (b : Bool) → (cond b (record c { sought = c.sought + 1 }) (record c { free = c.free + 1 })).sought + (cond b (record c { sought = c.sought + 1 }) (record c { free = c.free + 1 })).free ≡ 0 → ⊥
        by_kind true e = omega arith
        by_kind false e = omega arith

    counted-whole : (ps : List Pattern) (c : Counts) → AllOf (λ p. heads op p ≡ false) ps → (counted s ps c).sought + (counted s ps c).free ≡ 0
        → (c.sought + c.free ≡ 0) × (many_brought shapes value op ps + c.others ≡ (counted s ps c).others)
    counted-whole [] c h e = (e, omega arith)
    counted-whole (p ∷ ps) c h e =
        let later : ((one_more s p.node c).sought + (one_more s p.node c).free ≡ 0) × (many_brought shapes value op ps + (one_more s p.node c).others ≡ (counted s ps (one_more s p.node c)).others)
        = counted-whole ps (one_more s p.node c) h.1 e in
        let sum : many_brought shapes value op ps + (one_more s p.node c).others ≡ (counted s ps (one_more s p.node c)).others = later.1 in
        let w : IsWhole p c = whole_one p c h.0 later.0 in
        let one : length (arms shapes value op p) + c.others ≡ (one_more s p.node c).others = w.one in
        (w.no_sought, omega arith)

    pub may-serve : ((x : ℕ) → IsProper shapes (value x)) → (ps : List Pattern) (us : List Term) → AllOf (λ p. heads op p ≡ false) ps → Serve shapes op ps us value → MayServe (counted s ps none_counted) (length us)
    may-serve proper ps us h serve =
        let many : length us ≡ many_brought shapes value op ps = serve-many ps us serve in
        let few : length ps ≤ many_brought shapes value op ps = all_bring proper ps h in
        let total : (counted s ps none_counted).sought + (counted s ps none_counted).free + (counted s ps none_counted).others ≡ length ps + 0 = counted-total ps none_counted in
        (omega arith, λ none. let whole : many_brought shapes value op ps + 0 ≡ (counted s ps none_counted).others = (counted-whole ps none_counted h none).1 in omega arith)

-- ---- patterns that are left

both_true : (a b : Bool) → a && b ≡ true → (a ≡ true) × (b ≡ true)
both_true true b e = (refl, e)
both_true false b e = not_true (sym e)

kept_by : {X : Type 0} (P : X → Type 0) (x : X) (xs : List X) (b : Bool) → P x → AllOf P xs → AllOf P (cond b (x ∷ xs) xs)
kept_by P x xs true h k = (h, k)
kept_by P x xs false h k = k

kept_all : {X : Type 0} (P : X → Type 0) (test : X → Bool) (xs : List X) → AllOf P xs → AllOf P (filter test xs)
kept_all P test [] h = tt
kept_all P test (x ∷ xs) h = kept_by P x (filter test xs) (test x) h.0 (kept_all P test xs h.1)

module _ {N : Type 0} (s : Sight N) (op : OpId) where
  pub loose-apart_all : (ps : List Pattern) → AllOf (λ p. heads op p ≡ false) (loose s op ps)
  loose-apart_all ps = subst (AllOf (λ p. heads op p ≡ false)) (counts.loose-apart s op ps) (kept_all (λ p. heads op p ≡ false) (λ q. not (is_given s q)) (taken_apart op ps) (none-headed op ps))

  -- where all values are known none is left
  NoneLoose : Pattern → Type 0
  NoneLoose p = is_given s p ≡ true → loose_of s op p ≡ []

  each_none : (ps : List Pattern) → AllOf NoneLoose ps → list_all (is_given s) ps ≡ true → loose s op ps ≡ []
  unfolding NoneLoose
  each_none [] h e = refl
  each_none (p ∷ ps) h e =
      let k : (is_given s p ≡ true) × (list_all (is_given s) ps ≡ true) = both_true (is_given s p) (list_all (is_given s) ps) e in
      ap (λ qs. qs ++ loose s op ps) (h.0 k.0) ∙ each_none ps h.1 k.1

  none_loose : (p : Pattern) → NoneLoose p
  unfolding NoneLoose
  none_loose = ind_pattern NoneLoose
      (λ x sort g. counts.loose-given s op (var_pattern x sort) refl g)
      (λ z g. counts.loose-given s op (int_pattern z) refl g)
      (λ f ps h g. ⊎_elim
      (λ same. counts.loose-nested s op (app_pattern f ps) f ps refl same ∙ each_none ps h (sym (given-app s (app_pattern f ps) f ps refl) ∙ g))
      (λ other. counts.loose-given s op (app_pattern f ps) (counts.apart_other s op (app_pattern f ps) f ps refl other) g)
      (true_or_false (op.0 == f.0)))

  all_loose : (ps : List Pattern) → AllOf NoneLoose ps
  all_loose [] = tt
  all_loose (p ∷ ps) = (none_loose p, all_loose ps)

  pub given-loose : (ps : List Pattern) → list_all (is_given s) ps ≡ true → loose s op ps ≡ []
  given-loose ps g = each_none ps (all_loose ps) g

-- ---- bounds

module _ {N : Type 0} (shapes : Shapes) (s : Sight N) (op : OpId) (ac : is_ac shapes op ≡ true) where
  pub left-few : (ps : List Pattern) (us : List Term) (c : Counts) (many : ℕ) (r : Bool) → c ≡ counted s (loose s op ps) none_counted → many ≡ length us → Decides r (MayServe c many) → r ≡ false
      → Tells shapes s (list_all (is_given s) ps) (Serve shapes op (loose s op ps) us) Empty
  left-few ps us c many r e l d off = record {
    prunes = λ value a serve. not_true (sym (d.1 (subst (λ k. MayServe c k) (sym l) (subst (λ k. MayServe k (length us)) (sym e) (may-serve shapes op ac value s a.proper (loose s op ps) us (loose-apart_all s op ps) serve)))) ∙ off);
    taken = tt;
    exact = λ g value k n. not_true n;
  }

  none_there : (us : List Term) → 0 ≡ length us → us ≡ []
  none_there [] e = refl
  none_there (u ∷ us) e = absurd (omega arith)

  all_serve : (ps : List Pattern) (us : List Term) (value : ℕ → Term) → ps ≡ [] → us ≡ [] → Serve shapes op ps us value
  unfolding Serve
  all_serve ps us value e f = λ u. ap (times u) f ∙ sym (ap (times_brought shapes value op u) e)

  pub left-inside : (ps : List Pattern) (us : List Term) (c : Counts) (many : ℕ) (low : Low N) → c ≡ counted s (loose s op ps) none_counted → many ≡ length us → MayServe c many
      → Tells shapes s false (AreThere shapes op (loose s op ps) us) low → Tells shapes s (list_all (is_given s) ps) (Serve shapes op (loose s op ps) us) low
  unfolding Serve AreThere
  left-inside ps us c many low e l m h = record {
    prunes = λ value a serve. h.prunes value a (λ u. let same : times u us ≡ times_brought shapes value op u (loose s op ps) = serve u in omega arith);
    taken = h.taken;
    exact = λ g value k n.
        let none : loose s op ps ≡ [] = given-loose s op ps g in
        let nothing : c ≡ none_counted = e ∙ ap (λ qs. counted s qs none_counted) none in
        let mine : MayServe none_counted (length us) = subst (λ k. MayServe none_counted k) l (subst (λ k. MayServe k many) nothing m) in
        all_serve (loose s op ps) us value none (none_there us (mine.1 refl));
  }

  pub under-missing : (ps : List Pattern) (us ts : List Term) → us ≡ ts → TakesAway shapes s op (settled s op ps) us None → Tells shapes s (list_all (is_given s) ps) (MakeNode shapes op ps ts) Empty
  unfolding MakeNode
  under-missing ps us ts e h = record {
    prunes = λ value a made. h value a (λ u.
        let all : times u ts ≡ times_brought shapes value op u ps = arguments-times shapes value op ac ps ts made u in
        let same : times u us ≡ times u ts = ap (times u) e in
        let both : times_brought shapes value op u (settled s op ps) + times_brought shapes value op u (loose s op ps) ≡ times_brought shapes value op u ps = brought-both shapes s op value ac u ps in omega arith);
    taken = tt;
    exact = λ g value k n. not_true n;
  }

  pub under-left : (ps : List Pattern) (us ts : List Term) (ws : List (Where Term)) (low : Low N) → us ≡ ts → Ascends ts → TakesAway shapes s op (settled s op ps) us (Some ws)
      → Tells shapes s (list_all (is_given s) ps) (Serve shapes op (loose s op ps) (terms ws)) low → Tells shapes s (list_all (is_given s) ps) (MakeNode shapes op ps ts) low
  unfolding MakeNode Serve
  under-left ps us ts ws low e up left h = record {
    prunes = λ value a made. h.prunes value a (λ u.
        let all : times u ts ≡ times_brought shapes value op u ps = arguments-times shapes value op ac ps ts made u in
        let same : times u us ≡ times u ts = ap (times u) e in
        let sum : times u us ≡ times_brought shapes value op u (settled s op ps) + times u (terms ws) = left.all value a.known u in
        let both : times_brought shapes value op u (settled s op ps) + times_brought shapes value op u (loose s op ps) ≡ times_brought shapes value op u ps = brought-both shapes s op value ac u ps in omega arith);
    taken = h.taken;
    exact = λ g value k n. times-arguments shapes value op ac ps ts up (λ u.
        let serve : times u (terms ws) ≡ times_brought shapes value op u (loose s op ps) = h.exact g value k n u in
        let same : times u us ≡ times u ts = ap (times u) e in
        let sum : times u us ≡ times_brought shapes value op u (settled s op ps) + times u (terms ws) = left.all value k u in
        let both : times_brought shapes value op u (settled s op ps) + times_brought shapes value op u (loose s op ps) ≡ times_brought shapes value op u ps = brought-both shapes s op value ac u ps in omega arith);
  }

  pub looks-ac : (p : Pattern) (f : OpId) (ps : List Pattern) (t : Term) (ts : List Term) (low : Low N) → p.node ≡ pattern.App op ps → t ≡ app_term f ts → op.0 ≡ f.0
      → Tells shapes s (list_all (is_given s) ps) (MakeNode shapes op ps ts) low → Tells shapes s (is_given s p) (Makes shapes p t) low
  unfolding Makes MakeNode
  looks-ac p f ps t ts low e h one k = tells-same shapes s (list_all (is_given s) ps) (is_given s p) (MakeNode shapes op ps ts) (Makes shapes p t) low
      (λ g. sym (given-app s p op ps e) ∙ g)
      (λ value m. ap (instance shapes value) (sym (by_node shapes s p op ps e)) ∙ m ∙ h ∙ ap (λ (n : ℕ). app_term (record { 0 = n }) ts) (sym one))
      (λ value m. ap (instance shapes value) (by_node shapes s p op ps e) ∙ m ∙ ap (λ (n : ℕ). app_term (record { 0 = n }) ts) one ∙ sym h) k
