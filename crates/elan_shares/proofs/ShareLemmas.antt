-- What the variable may take is one of the shares, or a node over several of them.
use Rattle.std.proofs.Common.{◌≡◌, refl, sym, ap, ◌∙◌, ◌⊎◌, inl, inr, ⊎_elim, subst, ℕ, ◌*◌, ◌/◌, ◌≤◌, ◌<◌, Bool, true, false, cond, Option, Some, None, List, [], ◌∷◌, length, slice_get, is_gt, arith}
use Rattle.std.proofs.Math.Nat.{mul-le-mul_left, mul-div-le}
use Rattle.std.proofs.lemmas.Nat.{le-div}
use Rattle.boxcar.specs.Table.{Where}
use Rattle.elan_terms.specs.declared.tree.OpId.{OpId}
use Rattle.elan_terms.specs.declared.tree.SortId.{SortId}
use Rattle.elan_terms.specs.declared.tree.Term.{Term}
use Rattle.elan_terms.specs.declared.tree.Shapes.{Shapes}
use Rattle.elan_terms.specs.Term.{order, is_ac, shape_sort, sort_of, arms_under}
use Rattle.elan_terms.specs.Ascending.{NotAfter, Ascends}
use Rattle.elan_terms.specs.Canonical.{is_headed, IsCanonical}
use Rattle.elan_terms.specs.Valid.{HasSort}
use Rattle.elan_terms.proofs.Lists.{In, in_of_contains, contains_of_in, pairs_from}
use Rattle.elan_terms.proofs.Sorting.{after, not_after_trans}
use Rattle.elan_laws.specs.Parts.{SomeOf, taken, left, times}
use Rattle.elan_laws.proofs.CanonicalLaws.{true_or_false, arms-other, arms-same, headed_is, canonical_app, sort-of_app}
use Rattle.elan_table.specs.Rows.{MayStand}
use Rattle.elan_bags.specs.Bags.{IsOver}
use Rattle.elan_bags.proofs.TimesLemmas.{some_none, some-times, some_of_times}
use Rattle.elan_shares.specs.declared.share.Places.{Places}
use Rattle.elan_shares.specs.Shares.{After, IsShare, FindsLeastTerm}
use Rattle.elan_shares.specs.Sizes.{Fits}
use Rattle.elan_shares.specs.Singles.{IsAlone}
use Rattle.elan_shares.specs.Nodes.{IsNode}
use Rattle.elan_shares.specs.Lesser.{lesser}

-- ---- the least of two kinds

module _ (One Other Both : Term → Type 0) (one : (u : Term) → One u → Both u) (other : (u : Term) → Other u → Both u) (either : (u : Term) → Both u → One u ⊎ Other u) where
  lesser_by : (a b : Where Term) (c : Bool) → is_gt (order a.value b.value) ≡ c → FindsLeastTerm One (Some a) → FindsLeastTerm Other (Some b) → FindsLeastTerm Both (cond c (Some b) (Some a))
  lesser_by a b true e h k = (other b.value k.0, λ u is. ⊎_elim (λ i. not_after_trans b.value a.value u (after a.value b.value e) (h.1 u i)) (λ i. k.1 u i) (either u is))
  lesser_by a b false e h k = (one a.value h.0, λ u is. ⊎_elim (λ i. h.1 u i) (λ i. not_after_trans a.value b.value u e (k.1 u i)) (either u is))

  pub finds_lesser : (a b : Option (Where Term)) → FindsLeastTerm One a → FindsLeastTerm Other b → FindsLeastTerm Both (lesser a b)
  finds_lesser None None h k = λ u is. ⊎_elim (λ i. h u i) (λ i. k u i) (either u is)
  finds_lesser None (Some b) h k = (other b.value k.0, λ u is. ⊎_elim (λ i. absurd (h u i)) (λ i. k.1 u i) (either u is))
  finds_lesser (Some a) None h k = (one a.value h.0, λ u is. ⊎_elim (λ i. h.1 u i) (λ i. absurd (k u i)) (either u is))
  finds_lesser (Some a) (Some b) h k = lesser_by a b (is_gt (order a.value b.value)) refl h k

-- two facts that hold of the same terms
pub finds_same : (Is Was : Term → Type 0) → ((u : Term) → Was u → Is u) → ((u : Term) → Is u → Was u) → (found : Option (Where Term)) → FindsLeastTerm Was found → FindsLeastTerm Is found
finds_same Is Was to back None h = λ u is. h u (back u is)
finds_same Is Was to back (Some a) h = (to a.value h.0, λ u is. h.1 u (back u is))

-- ---- one of some terms

some_in : (u : Term) (ws : List Term) → SomeOf (u ∷ []) ws → In u ws
some_in u [] s = elim s [ ]
some_in u (w ∷ ws) (taken s) = inl refl
some_in u (w ∷ ws) (left s) = inr (some_in u ws s)

in_some : (u : Term) (ws : List Term) → In u ws → SomeOf (u ∷ []) ws
in_some u [] i = elim i [ ]
in_some u (w ∷ ws) (inl e) = subst (λ t. SomeOf (u ∷ []) (t ∷ ws)) e (taken (some_none ws))
in_some u (w ∷ ws) (inr i) = left (in_some u ws i)

shared_le : (many few all : ℕ) → few ≤ all / many → many * few ≤ all
shared_le many few all le =
    let product : many * few ≤ many * (all / many) = mul-le-mul_left many le in
    omega (arith, mul-div-le all many)

-- ---- the two kinds

module _ (shapes : Shapes) (op : OpId) (us ws : List Term) (places : Places) (count : ℕ) (sort : SortId) (floor : Option (Where Term)) (ac : is_ac shapes op ≡ true) (sought : 0 < places.sought) (many : count ≡ length us) (over : IsOver places.sought us ws) where
  abbrev Share : Term → Type 0
  Share = IsShare shapes op us places sort floor

  abbrev Alone : Term → Type 0
  Alone = IsAlone shapes op places count ws sort floor

  abbrev Node : Term → Type 0
  Node = IsNode shapes op places count ws floor

  share_of : (u : Term) (xs : List Term) → arms_under op u ≡ xs → MayStand shapes u → HasSort shapes u sort → After floor u → SomeOf xs ws → Fits places count (length xs) → Share u
  share_of u xs e may sorted later some fits =
      let long : length (arms_under op u) ≡ length xs = ap length e in
      let enough : Fits places (length us) (length (arms_under op u)) = subst (λ n. Fits places n (length (arms_under op u))) many (subst (Fits places count) (sym long) fits) in
      record {
        may = may;
        sorted = sorted;
        after = later;
        among = λ t. shared_le places.sought (times t (arms_under op u)) (times t us)
            (subst (λ n. times t (arms_under op u) ≤ n) (over.each t) (subst (λ ys. times t ys ≤ times t ws) (sym e) (some-times t some)));
        enough = enough.0;
        exactly = enough.1;
      }

  alone_share : (u : Term) → Alone u → Share u
  alone_share u h = share_of u (u ∷ []) (arms-other op u h.single.suits.other) h.single.may h.single.suits.sorted h.single.suits.after
      (in_some u ws (in_of_contains ws u h.single.there)) h.fits

  node_share : shape_sort (slice_get shapes.shapes op.0) ≡ Some sort → (u : Term) → Node u → Share u
  node_share own u h = share_of u h.args (ap (arms_under op) h.whole ∙ arms-same op h.args) h.may (ap (sort_of shapes) h.whole ∙ sort-of_app shapes op h.args ∙ own) h.after h.some h.fits

  arms_ascend : (u : Term) → IsCanonical shapes u → Ascends (arms_under op u)
  arms_ascend u h = ⊎_elim
      (λ e. ((canonical_app shapes op (arms_under op u) (subst (IsCanonical shapes) (headed_is op u e) h)).0 ac).1)
      (λ e. subst Ascends (sym (arms-other op u e)) (pairs_from NotAfter (u ∷ []) (tt, tt)))
      (true_or_false (is_headed op u))

  share_some : (u : Term) → Share u → SomeOf (arms_under op u) ws
  share_some u h = some_of_times (arms_under op u) ws (arms_ascend u h.may.canonical) over.ascends
      (λ t. let all : places.sought * times t (arms_under op u) ≤ times t us = h.among t in
      let le : times t (arms_under op u) ≤ times t us / places.sought = le-div (times t (arms_under op u)) (times t us) places.sought sought (omega arith) in
      subst (λ n. times t (arms_under op u) ≤ n) (sym (over.each t)) le)

  share_fits : (u : Term) → Share u → Fits places count (length (arms_under op u))
  share_fits u h = subst (λ n. Fits places n (length (arms_under op u))) (sym many) (h.enough, h.exactly)

  share_alone : (u : Term) → Share u → is_headed op u ≡ false → Alone u
  share_alone u h e = record {
    fits = subst (Fits places count) (ap length (arms-other op u e)) (share_fits u h);
    single = record {
      may = h.may;
      there = contains_of_in ws u (some_in u ws (subst (λ ys. SomeOf ys ws) (arms-other op u e) (share_some u h)));
      suits = record { other = e; sorted = h.sorted; after = h.after };
    };
  }

  share_node : (u : Term) → Share u → is_headed op u ≡ true → Node u
  share_node u h e = record {
    may = h.may;
    after = h.after;
    args = arms_under op u;
    whole = headed_is op u e;
    some = share_some u h;
    fits = share_fits u h;
  }

  -- the operator makes terms of another sort
  pub only_alone : (shape_sort (slice_get shapes.shapes op.0) ≡ Some sort → ⊥) → (found : Option (Where Term)) → FindsLeastTerm Alone found → FindsLeastTerm Share found
  only_alone not_so found = finds_same Share Alone alone_share (λ u h. ⊎_elim
      (λ e. absurd (not_so (sym (ap (sort_of shapes) (headed_is op u e) ∙ sort-of_app shapes op (arms_under op u)) ∙ h.sorted)))
      (λ e. share_alone u h e)
      (true_or_false (is_headed op u))) found

  pub alone_or_node : shape_sort (slice_get shapes.shapes op.0) ≡ Some sort → (single node : Option (Where Term)) → FindsLeastTerm Alone single → FindsLeastTerm Node node → FindsLeastTerm Share (lesser single node)
  alone_or_node own = finds_lesser Alone Node Share alone_share (node_share own) (λ u h. ⊎_elim
      (λ e. inr (share_node u h e))
      (λ e. inl (share_alone u h e))
      (true_or_false (is_headed op u)))
