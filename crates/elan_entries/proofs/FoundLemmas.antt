-- What is put into a list of entries is there, stays there, and is of its set.
use Rattle.std.proofs.Common.{◌≡◌, refl, sym, ap, subst, ◌∙◌, ℕ, Bool, true, false, if◌then◌else◌, Option, None, Some, List, [], ◌∷◌, ◌++◌, ◌⊎◌, inl, inr}
use Rattle.std.specs.List.{flat_map}
use Rattle.elan_terms.specs.declared.tree.Pattern.{Pattern}
use Rattle.elan_entries.specs.declared.found.Key.{Key}
use Rattle.elan_entries.specs.declared.found.Key.TheVariants.{Whole, Rest}
use Rattle.elan_entries.specs.declared.found.Found.{Found}
use Rattle.elan_entries.specs.declared.found.Found.TheVariants.{One, Several}
use Rattle.elan_entries.specs.declared.found.Entry.{Entry}
use Rattle.elan_entries.specs.Trees.{same_all}
use Rattle.elan_entries.specs.Found.{same_tie, same_flag, same_key, merged, put, put_all}
use Rattle.elan_entries.specs.Sets.{IsGood, Has, AreGood, HasAt}
use Rattle.elan_entries.proofs.SameLemmas.{both_true, nat_same, same_all-equal, same_all-other}

no_true : false ≡ true → ⊥
no_true f = cc

-- ---- one cell

pub merged-keeps : (f g : Found) (ts : List Pattern) → Has f ts → Has (merged f g) ts
merged-keeps Several g ts h = tt
merged-keeps (One us) Several ts h = tt
merged-keeps (One us) (One vs) ts h = by (same_all us vs)
  where
    by : (b : Bool) → Has (if b then One us else Several) ts
    by true = h
    by false = tt

pub merged-has : (f g : Found) (ts : List Pattern) → Has g ts → Has (merged f g) ts
merged-has Several g ts h = tt
merged-has (One us) Several ts h = tt
merged-has (One us) (One vs) ts h = by (same_all us vs) refl
  where
    by : (b : Bool) → same_all us vs ≡ b → Has (if b then One us else Several) ts
    by true e = h ∙ sym (same_all-equal us vs e)
    by false e = tt

pub merged-good : (S : List Pattern → Type 0) (f g : Found) → IsGood S f → IsGood S g → IsGood S (merged f g)
merged-good S Several g p q = p
merged-good S (One us) Several p q = q
merged-good S (One us) (One vs) p q = by (same_all us vs) refl
  where
    by : (b : Bool) → same_all us vs ≡ b → IsGood S (if b then One us else Several)
    by true e = p
    by false e = (us, vs, p, q, same_all-other us vs e)

-- ---- keys

same_tie-equal : (p q : Option ℕ) → same_tie p q ≡ true → p ≡ q
same_tie-equal None None e = refl
same_tie-equal None (Some q) e = absurd (no_true e)
same_tie-equal (Some p) None e = absurd (no_true e)
same_tie-equal (Some p) (Some q) e = ap (λ n. Some n) (nat_same p q e)

same_flag-equal : (i j : Bool) → same_flag i j ≡ true → i ≡ j
same_flag-equal true true e = refl
same_flag-equal true false e = absurd (no_true e)
same_flag-equal false true e = absurd (no_true e)
same_flag-equal false false e = refl

pub same_key-equal : (a b : Key) → same_key a b ≡ true → a ≡ b
same_key-equal (Whole s p i) (Whole t q j) e =
    let x : _ = both_true _ _ e in let y : _ = both_true _ _ x.1 in
    ap (λ n. Whole (record { 0 = n }) p i) (nat_same s.0 t.0 x.0) ∙ ap (λ r. Whole t r i) (same_tie-equal p q y.0)
    ∙ ap (λ r. Whole t q r) (same_flag-equal i j y.1)
same_key-equal (Whole s p i) (Rest g l m) e = absurd (no_true e)
same_key-equal (Rest f k h) (Whole t q j) e = absurd (no_true e)
same_key-equal (Rest f k h) (Rest g l m) e =
    let x : _ = both_true _ _ e in let y : _ = both_true _ _ x.1 in
    ap (λ n. Rest (record { 0 = n }) k h) (nat_same f.0 g.0 x.0) ∙ ap (λ r. Rest g r h) (nat_same k l y.0)
    ∙ ap (λ r. Rest g l r) (nat_same h m y.1)

-- ---- a list of cells

module _ (k : Key) (ts : List Pattern) where
  pub put-keeps : (es : List Entry) (e : Entry) → HasAt es k ts → HasAt (put es e) k ts
  put-keeps [] e h = absurd h
  put-keeps (d ∷ ds) e h = by (put-keeps ds e) (same_key d.key e.key) h
    where
      by : (HasAt ds k ts → HasAt (put ds e) k ts) → (b : Bool) → ((d.key ≡ k) × Has d.found ts) ⊎ HasAt ds k ts
          → HasAt (if b then record { key = d.key; found = merged d.found e.found } ∷ ds else d ∷ put ds e) k ts
      by later true (inl p) = inl (p.0, merged-keeps d.found e.found ts p.1)
      by later true (inr p) = inr p
      by later false (inl p) = inl p
      by later false (inr p) = inr (later p)

  pub put-has : (es : List Entry) (e : Entry) → e.key ≡ k → Has e.found ts → HasAt (put es e) k ts
  put-has [] e p h = inl (p, h)
  put-has (d ∷ ds) e p h = by (put-has ds e p h) (same_key d.key e.key) refl
    where
      by : HasAt (put ds e) k ts → (b : Bool) → same_key d.key e.key ≡ b
          → HasAt (if b then record { key = d.key; found = merged d.found e.found } ∷ ds else d ∷ put ds e) k ts
      by later true q = inl (same_key-equal d.key e.key q ∙ p, merged-has d.found e.found ts h)
      by later false q = inr later

  pub put_all-keeps : (es more : List Entry) → HasAt es k ts → HasAt (put_all es more) k ts
  put_all-keeps es [] h = h
  put_all-keeps es (e ∷ more) h = put_all-keeps (put es e) more (put-keeps es e h)

  pub put_all-has : (es more : List Entry) → HasAt more k ts → HasAt (put_all es more) k ts
  put_all-has es [] h = absurd h
  put_all-has es (e ∷ more) (inl p) = put_all-keeps (put es e) more (put-has es e p.0 p.1)
  put_all-has es (e ∷ more) (inr p) = put_all-has (put es e) more p

  pub append-left : (es more : List Entry) → HasAt es k ts → HasAt (es ++ more) k ts
  append-left [] more h = absurd h
  append-left (e ∷ es) more (inl p) = inl p
  append-left (e ∷ es) more (inr p) = inr (append-left es more p)

  pub append-right : (es more : List Entry) → HasAt more k ts → HasAt (es ++ more) k ts
  append-right [] more h = h
  append-right (e ∷ es) more h = inr (append-right es more h)

  -- what a step makes of an entry is among what it makes of all
  pub flat-has : (f : Entry → List Entry) (key : Key) (us : List Pattern)
      → ((e : Entry) → e.key ≡ key → Has e.found us → HasAt (f e) k ts) → (es : List Entry) → HasAt es key us → HasAt (flat_map f es) k ts
  flat-has f key us step [] h = absurd h
  flat-has f key us step (e ∷ es) (inl p) = append-left (f e) (flat_map f es) (step e p.0 p.1)
  flat-has f key us step (e ∷ es) (inr p) = append-right (f e) (flat_map f es) (flat-has f key us step es p)

module _ (S : Key → List Pattern → Type 0) where
  pub put-good : (es : List Entry) (e : Entry) → AreGood S es → IsGood (S e.key) e.found → AreGood S (put es e)
  put-good [] e p q = (q, tt)
  put-good (d ∷ ds) e p q = by (put-good ds e p.1 q) (same_key d.key e.key) refl
    where
      by : AreGood S (put ds e) → (b : Bool) → same_key d.key e.key ≡ b
          → AreGood S (if b then record { key = d.key; found = merged d.found e.found } ∷ ds else d ∷ put ds e)
      by later true r = (merged-good (S d.key) d.found e.found p.0 (subst (λ k. IsGood (S k) e.found) (sym (same_key-equal d.key e.key r)) q), p.1)
      by later false r = (p.0, later)

  pub put_all-good : (es more : List Entry) → AreGood S es → AreGood S more → AreGood S (put_all es more)
  put_all-good es [] p q = p
  put_all-good es (e ∷ more) p q = put_all-good (put es e) more (put-good es e p q.0) q.1

  pub append-good : (es more : List Entry) → AreGood S es → AreGood S more → AreGood S (es ++ more)
  append-good [] more p q = q
  append-good (e ∷ es) more p q = (p.0, append-good es more p.1 q)

pub flat-good : (S T : Key → List Pattern → Type 0) (f : Entry → List Entry)
    → ((e : Entry) → IsGood (S e.key) e.found → AreGood T (f e)) → (es : List Entry) → AreGood S es → AreGood T (flat_map f es)
flat-good S T f step [] p = tt
flat-good S T f step (e ∷ es) p = append-good T (f e) (flat_map f es) (step e p.0) (flat-good S T f step es p.1)

pub good-map : (S T : List Pattern → Type 0) → ((ts : List Pattern) → S ts → T ts) → (f : Found) → IsGood S f → IsGood T f
good-map S T to (One ts) p = to ts p
good-map S T to Several p = (p.0, p.1, to p.0 p.2, to p.1 p.3, p.4)
