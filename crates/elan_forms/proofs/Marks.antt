-- Forms that count some of their tokens: a front is a mark where it ends with such a token, has more of them than were
-- left, and some text begins so.
use Rattle.std.proofs.Common.{◌≡◌, ℕ, zero, suc, ◌+◌, ◌-◌, ◌<◌, ◌≤◌, Bool, true, false, cond, List, [], ◌∷◌, ◌++◌, length, ◌⊎◌, inl, inr, refl, sym, ap, subst, ◌∙◌, append_assoc, append-nil, arith, length-append, add-zero}
use Rattle.std.specs.Prelude.{count_by, ◌↔◌}
use Rattle.std.proofs.lemmas.List.Sums.{sum_by-append, sum_by-cons, count_by-le-length}
use Rattle.elan_forms.specs.Whole.{Possible, Unmarked, EndsWith, IsFirstMark}
use Rattle.elan_forms.specs.Form.{Form, ◌>>=◌, counted, silent, pure, place, ranged, placed, either, loop, loop_words, nested}
use Rattle.elan_forms.proofs.Steps.{head_is, tail_is}
use Rattle.elan_forms.proofs.Exact.{Same}
use Rattle.elan_forms.proofs.Nested.{Grows, Lessens, unroll}

-- ---- how many tokens count

module _ {T : Type 0} (c : T → Bool) where
  pub count_append : (u v : List T) → count_by c (u ++ v) ≡ count_by c u + count_by c v
  count_append u v = sum_by-append (λ x. cond (c x) 1 0) u v

  count_cons : (t : T) (ts : List T) → count_by c (t ∷ ts) ≡ cond (c t) 1 0 + count_by c ts
  count_cons t ts = sum_by-cons (λ x. cond (c x) 1 0) t ts

  pub count_one : (t : T) → c t ≡ true → count_by c (t ∷ []) ≡ 1
  count_one t e = count_cons t [] ∙ ap (λ b. cond b 1 0 + 0) e

  pub count_none : (t : T) → c t ≡ false → count_by c (t ∷ []) ≡ 0
  count_none t e = count_cons t [] ∙ ap (λ b. cond b 1 0 + 0) e

  count_sum : (ts u v : List T) → ts ≡ u ++ v → count_by c ts ≡ count_by c u + count_by c v
  count_sum ts u v e = ap (count_by c) e ∙ count_append u v

  -- ---- what ends with a token that counts

  ends_tail : (x : T) (w : List T) → EndsWith c (x ∷ w) → 0 < length w → EndsWith c w
  ends_tail x w ([], t, e, ct) lt =
      let none : length w ≡ 0 = ap length (tail_is x t w [] e) in absurd (omega arith)
  ends_tail x w (y ∷ front, t, e, ct) lt = (front, t, tail_is x y w (front ++ t ∷ []) e, ct)

  ends_right : (u w : List T) → EndsWith c (u ++ w) → 0 < length w → EndsWith c w
  ends_right [] w h lt = h
  ends_right (x ∷ u) w h lt = ends_right u w (ends_tail x (u ++ w) h (omega (arith, length-append u w))) lt

  ends_behind : (u v : List T) → EndsWith c v → EndsWith c (u ++ v)
  ends_behind u v (front, t, e, ct) = (
    u ++ front,
    t,
    ap (λ z. u ++ z) e ∙ sym (append_assoc u front (t ∷ [])),
    ct,
  )

  ends_counts : (ts : List T) → EndsWith c ts → 0 < count_by c ts
  ends_counts ts (front, t, e, ct) = omega (arith, count_sum ts front (t ∷ []) e, count_one t ct)

  -- a front that ends with its last token that counts, and has all of them
  abbrev Trimmed : List T → Type 0
  Trimmed ts = (u : List T) × (v : List T) × (ts ≡ u ++ v) × EndsWith c u × (count_by c u ≡ count_by c ts)

  trimmed_behind : (t : T) (ts : List T) → Trimmed ts → Trimmed (t ∷ ts)
  trimmed_behind t ts (u, v, e, h, n) = (
    t ∷ u,
    v,
    ap (λ z. t ∷ z) e,
    ends_behind (t ∷ []) u h,
    count_cons t u ∙ ap (λ m. cond (c t) 1 0 + m) n ∙ sym (count_cons t ts),
  )

  trimmed_here : (t : T) (ts : List T) (d : Bool) → c t ≡ d → count_by c ts ≡ 0 → 0 < count_by c (t ∷ ts) →
      Trimmed (t ∷ ts)
  trimmed_here t ts true ct none lt = (
    t ∷ [],
    ts,
    refl,
    ([], t, refl, ct),
    count_one t ct ∙ sym (count_cons t ts ∙ ap (λ b. cond b 1 0 + count_by c ts) ct ∙ ap (λ m. 1 + m) none),
  )
  trimmed_here t ts false ct none lt =
      let zero_here : count_by c (t ∷ ts) ≡ 0 = count_cons t ts ∙ ap (λ b. cond b 1 0 + count_by c ts) ct ∙ ap
      (λ m. 0 + m) none in
      absurd (omega arith)

  trimmed : (ts : List T) → 0 < count_by c ts → Trimmed ts
  trimmed [] lt = absurd (omega arith)
  trimmed (t ∷ ts) lt = go (trimmed ts) (count_by c ts) refl
    where
      go : (0 < count_by c ts → Trimmed ts) → (m : ℕ) → count_by c ts ≡ m → Trimmed (t ∷ ts)
      go further zero e = trimmed_here t ts (c t) refl e lt
      go further (suc m) e = trimmed_behind t ts (further (omega arith))

-- A form for which so many tokens are left, and whose value says how many are left then, on texts shorter than a bound.
-- The test says which tokens count.
pub record Counts {T V : Type 0} (c : T → Bool) (b left : ℕ) (out : V → ℕ) (f : Form T V) : Type 0 where
  pub has : (n : ℕ) → (w : List T) × (v : V) × f.words n w v
  pub spent : (n : ℕ) (ts : List T) (v : V) → length ts < b → f.words n ts v → out v ≡ left - count_by c ts
  pub past : (n : ℕ) (ts : List T) → length ts < b → f.marks n ts → left < count_by c ts
  pub ends : (n : ℕ) (ts : List T) → length ts < b → f.marks n ts → EndsWith c ts
  pub goes_on : (n : ℕ) (ts : List T) → length ts < b → f.marks n ts → Possible (f.words n) ts
  pub marks : (n : ℕ) (ts more : List T) (v : V) → length (ts ++ more) < b → f.words n (ts ++ more) v →
      left < count_by c ts → EndsWith c ts →
      f.marks n ts

-- a value that is the number that is left
abbrev pub itself : ℕ → ℕ
itself left = left

module _ {T : Type 0} (c : T → Bool) where
  pub counts_less : {V : Type 0} (b d left : ℕ) (out : V → ℕ) (f : Form T V) → b ≤ d → Counts c d left out f →
      Counts c b left out f
  counts_less b d left out f le h = record {
    has = h.has;
    spent = λ n ts v l w. h.spent n ts v (omega arith) w;
    past = λ n ts l m. h.past n ts (omega arith) m;
    ends = λ n ts l m. h.ends n ts (omega arith) m;
    goes_on = λ n ts l m. h.goes_on n ts (omega arith) m;
    marks = λ n ts more v l w lt e. h.marks n ts more v (omega arith) w lt e;
  }

  -- ---- no token, and one token

  nil_of_length : (ts : List T) → length ts ≡ 0 → ts ≡ []
  nil_of_length [] e = refl
  nil_of_length (t ∷ ts) e = absurd (omega arith)

  pub counts_silent : {V : Type 0} (b left : ℕ) (out : V → ℕ) (value : ℕ → V) → ((n : ℕ) → out (value n) ≡ left) →
      Counts c b left out (silent value)
  counts_silent b left out value same = record {
    has = λ n. ([], value n, (refl, refl));
    spent = λ n ts v l (e, ev).
        let none : length ts ≡ 0 = ap length e in
        let this : out v ≡ left = ap out ev ∙ same n in omega (arith, count_by-le-length c ts);
    past = λ n ts l m. absurd m;
    ends = λ n ts l m. absurd m;
    goes_on = λ n ts l m. absurd m;
    marks = λ n ts more v l (e, ev) lt h. let none : length (ts ++ more) ≡ 0 = ap length e in
        absurd (omega (arith, length-append ts more, count_by-le-length c ts));
  }

  pub counts_pure : {V : Type 0} (b : ℕ) (out : V → ℕ) (v : V) → Counts c b (out v) out (pure v)
  counts_pure b out v = counts_silent b (out v) out (λ _. v) (λ n. refl)

  pub counts_counted : (b left : ℕ) (p : T → Bool) (w : T) → p w ≡ true → ((t : T) → p t ≡ true → c t ≡ true) →
      Counts c b left itself (counted p left)
  counts_counted b left p w pw each = record {
    has = λ n. (w ∷ [], left - 1, (w, refl, pw, refl));
    spent = λ n ts v l (t, e, pt, ev). let one : count_by c ts ≡ 1 = counted_one ts t e pt in omega arith;
    past = λ n ts l (z, t, e, pt). let one : count_by c ts ≡ 1 = counted_one ts t e pt in omega arith;
    ends = λ n ts l (z, t, e, pt). ([], t, e, each t pt);
    goes_on = λ n ts l (z, t, e, pt). ([], left - 1, (t, append-nil ts ∙ e, pt, refl));
    marks = marks;
  }
    where
      counted_one : (ts : List T) (t : T) → ts ≡ t ∷ [] → p t ≡ true → count_by c ts ≡ 1
      counted_one ts t e pt = ap (count_by c) e ∙ count_one c t (each t pt)

      marks : (n : ℕ) (ts more : List T) (v : ℕ) → length (ts ++ more) < b →
          (counted p left).words n (ts ++ more) v → left < count_by c ts → EndsWith c ts →
          (counted p left).marks n ts
      marks n ts more v l (t, e, pt, ev) lt h =
          let one : length (ts ++ more) ≡ 1 = ap length e in
          let few : count_by c ts ≤ length ts = count_by-le-length c ts in
          let none : more ≡ [] = nil_of_length more (omega (arith, length-append ts more)) in (
            omega (arith, length-append ts more),
            t,
            sym (append-nil ts) ∙ ap (λ z. ts ++ z) (sym none) ∙ e,
            pt,
          )

  -- ---- one after the other

  -- a front is inside the first part, or has it and a front of the second
  split_front : (ts more u v : List T) → ts ++ more ≡ u ++ v →
      ((w : List T) × (u ≡ ts ++ w)) ⊎ ((w : List T) × (ts ≡ u ++ w) × (v ≡ w ++ more) × (0 < length w))
  split_front [] more u v e = inl (u, refl)
  split_front (t ∷ ts) more [] v e = inr (t ∷ ts, refl, sym e, omega arith)
  split_front (t ∷ ts) more (x ∷ u) v e = go (split_front ts more u v (tail_is t x (ts ++ more) (u ++ v) e))
    where
      h : t ≡ x
      h = head_is t x (ts ++ more) (u ++ v) e

      go : ((w : List T) × (u ≡ ts ++ w)) ⊎ ((w : List T) × (ts ≡ u ++ w) × (v ≡ w ++ more) × (0 < length w)) →
          ((w : List T) × (x ∷ u ≡ (t ∷ ts) ++ w)) ⊎ ((w : List T) × (t ∷ ts ≡ (x ∷ u) ++ w) × (v ≡ w ++ more) ×
          (0 < length w))
      go (inl (w, e1)) = inl (w, ap (λ z. x ∷ z) e1 ∙ ap (λ z. z ∷ (ts ++ w)) (sym h))
      go (inr (w, e1, e2, lt)) = inr (w, ap (λ z. t ∷ z) e1 ∙ ap (λ z. z ∷ (u ++ w)) h, e2, lt)

  sum_length : (ts u v : List T) → ts ≡ u ++ v → length ts ≡ length u + length v
  sum_length ts u v e = ap length e ∙ length-append u v

  -- The second form need only count on texts shorter than what the first one leaves.
  pub counts_bind : {A V : Type 0} (b d left : ℕ) (mid : A → ℕ) (out : V → ℕ) (f : Form T A) (g : A → Form T V) →
      Counts c b left mid f → ((x : A) → Counts c d (mid x) out (g x)) →
      ((n : ℕ) (x : A) (u v : List T) → f.words n u x → length u + length v < b → length v < d) →
      Counts c b left out (f >>= g)
  counts_bind {A} {V} b d left mid out f g hf hg short = record {
    has = has;
    spent = spent;
    past = past;
    ends = ends;
    goes_on = goes_on;
    marks = marks;
  }
    where
      has : (n : ℕ) → (w : List T) × (v : V) × (f >>= g).words n w v
      has n =
          let r = hf.has n in
          let s = (hg r.1).has (n + length r.0) in
          (r.0 ++ s.0, s.1, (r.0, s.0, r.1, r.2, s.2, refl))

      spent : (n : ℕ) (ts : List T) (y : V) → length ts < b → (f >>= g).words n ts y → out y ≡ left - count_by c ts
      spent n ts y l (u, v, x, fw, gw, e) =
          let sum : length ts ≡ length u + length v = sum_length ts u v e in
          let count : count_by c ts ≡ count_by c u + count_by c v = count_sum c ts u v e in
          let first : mid x ≡ left - count_by c u = hf.spent n u x (omega arith) fw in
          let second : out y ≡ mid x - count_by c v =
          (hg x).spent (n + length u) v y (short n x u v fw (omega arith)) gw in
          omega arith

      past : (n : ℕ) (ts : List T) → length ts < b → (f >>= g).marks n ts → left < count_by c ts
      past n ts l (inl m) = hf.past n ts l m
      past n ts l (inr (u, v, x, fw, m, e)) =
          let sum : length ts ≡ length u + length v = sum_length ts u v e in
          let count : count_by c ts ≡ count_by c u + count_by c v = count_sum c ts u v e in
          let first : mid x ≡ left - count_by c u = hf.spent n u x (omega arith) fw in
          let second : mid x < count_by c v = (hg x).past (n + length u) v (short n x u v fw (omega arith)) m in
          omega arith

      ends : (n : ℕ) (ts : List T) → length ts < b → (f >>= g).marks n ts → EndsWith c ts
      ends n ts l (inl m) = hf.ends n ts l m
      ends n ts l (inr (u, v, x, fw, m, e)) =
          let sum : length ts ≡ length u + length v = sum_length ts u v e in
          subst (EndsWith c) (sym e) (ends_behind c u v ((hg x).ends (n + length u) v
          (short n x u v fw (omega arith)) m))

      goes_on : (n : ℕ) (ts : List T) → length ts < b → (f >>= g).marks n ts → Possible ((f >>= g).words n) ts
      goes_on n ts l (inl m) =
          let r = hf.goes_on n ts l m in
          let s = (hg r.1).has (n + length (ts ++ r.0)) in
          (r.0 ++ s.0, s.1, (ts ++ r.0, s.0, r.1, r.2, s.2, sym (append_assoc ts r.0 s.0)))
      goes_on n ts l (inr (u, v, x, fw, m, e)) =
          let sum : length ts ≡ length u + length v = sum_length ts u v e in
          let s = (hg x).goes_on (n + length u) v (short n x u v fw (omega arith)) m in
          (s.0, s.1, (u, v ++ s.0, x, fw, s.2, ap (λ z. z ++ s.0) e ∙ append_assoc u v s.0))

      marks : (n : ℕ) (ts more : List T) (y : V) → length (ts ++ more) < b →
          (f >>= g).words n (ts ++ more) y → left < count_by c ts → EndsWith c ts →
          (f >>= g).marks n ts
      marks n ts more y l (u, v, x, fw, gw, e) lt h =
          let sum : length (ts ++ more) ≡ length u + length v = sum_length (ts ++ more) u v e in
          let first : mid x ≡ left - count_by c u = hf.spent n u x (omega arith) fw in
          elim (split_front ts more u v e) [
            | inl i ↦ inl (hf.marks n ts i.0 x (subst (λ z. length z < b) i.1 (omega arith))
                (subst (λ z. f.words n z x) i.1 fw) lt h)
            | inr i ↦
                let part : count_by c ts ≡ count_by c u + count_by c i.0 = count_sum c ts u i.0 i.1 in
                let last : EndsWith c i.0 = ends_right c u i.0 (subst (EndsWith c) i.1 h) i.3 in
                let some : 0 < count_by c i.0 = ends_counts c i.0 last in
                inr (
                  u,
                  i.0,
                  x,
                  fw,
                  (hg x).marks (n + length u) i.0 more y (subst (λ z. length z < d) i.2
                      (short n x u v fw (omega arith)))
                      (subst (λ z. (g x).words (n + length u) z y) i.2 gw) (omega arith) last,
                  i.1,
                )
          ]

  pub counts_then : {A V : Type 0} (b left : ℕ) (mid : A → ℕ) (out : V → ℕ) (f : Form T A) (g : A → Form T V) →
      Counts c b left mid f → ((x : A) → Counts c b (mid x) out (g x)) → Counts c b left out (f >>= g)
  counts_then b left mid out f g hf hg = counts_bind b b left mid out f g hf hg (λ n x u v fw l. omega arith)

  -- behind a token the bound is one more
  pub counts_behind : {V : Type 0} (b left : ℕ) (out : V → ℕ) (p : T → Bool) (w : T) (g : ℕ → Form T V) → p w ≡ true →
      ((t : T) → p t ≡ true → c t ≡ true) → ((x : ℕ) → Counts c b x out (g x)) →
      Counts c (suc b) left out (counted p left >>= g)
  counts_behind b left out p w g pw each hg = counts_bind (suc b) b left itself out (counted p left) g
      (counts_counted (suc b) left p w pw each) hg
      (λ n x u v (t, e, pt, ev) l. let one : length u ≡ 1 = ap length e in omega arith)

  -- ---- a form that takes one token that does not count, and then one that counts

  pub record Skips (f : Form T (Unit {0})) : Type 0 where
    pub has : (n : ℕ) → (w : List T) × f.words n w tt
    pub one : (n : ℕ) (ts : List T) → f.words n ts tt → (t : T) × (ts ≡ t ∷ []) × (c t ≡ false)
    pub unmarked : (n : ℕ) (ts : List T) → f.marks n ts → ⊥

  module _ {V : Type 0} (b left : ℕ) (out : V → ℕ) (f : Form T (Unit {0})) (g : Form T V) (hf : Skips f)
      (hg : Counts c b left out g) where
    skipped_none : (n : ℕ) (u : List T) → f.words n u tt → count_by c u ≡ 0
    skipped_none n u fw = let o = hf.one n u fw in ap (count_by c) o.1 ∙ count_none c o.0 o.2

    skipped_length : (n : ℕ) (u : List T) → f.words n u tt → length u ≡ 1
    skipped_length n u fw = let o = hf.one n u fw in ap length o.1

    pub counts_skip : Counts c (suc b) left out (f >>= (λ _. g))
    counts_skip = record { has = has; spent = spent; past = past; ends = ends; goes_on = goes_on; marks = marks }
      where
        has : (n : ℕ) → (w : List T) × (v : V) × (f >>= (λ _. g)).words n w v
        has n =
            let r = hf.has n in
            let s = hg.has (n + length r.0) in
            (r.0 ++ s.0, s.1, (r.0, s.0, tt, r.1, s.2, refl))

        spent : (n : ℕ) (ts : List T) (y : V) → length ts < suc b → (f >>= (λ _. g)).words n ts y →
            out y ≡ left - count_by c ts
        spent n ts y l (u, v, x, fw, gw, e) =
            let sum : length ts ≡ length u + length v = sum_length ts u v e in
            let count : count_by c ts ≡ count_by c u + count_by c v = count_sum c ts u v e in
            let none : count_by c u ≡ 0 = skipped_none n u fw in
            let one : length u ≡ 1 = skipped_length n u fw in
            let second : out y ≡ left - count_by c v = hg.spent (n + length u) v y (omega arith) gw in
            omega arith

        past : (n : ℕ) (ts : List T) → length ts < suc b → (f >>= (λ _. g)).marks n ts → left < count_by c ts
        past n ts l (inl m) = absurd (hf.unmarked n ts m)
        past n ts l (inr (u, v, x, fw, m, e)) =
            let sum : length ts ≡ length u + length v = sum_length ts u v e in
            let count : count_by c ts ≡ count_by c u + count_by c v = count_sum c ts u v e in
            let one : length u ≡ 1 = skipped_length n u fw in
            let second : left < count_by c v = hg.past (n + length u) v (omega arith) m in
            omega arith

        ends : (n : ℕ) (ts : List T) → length ts < suc b → (f >>= (λ _. g)).marks n ts → EndsWith c ts
        ends n ts l (inl m) = absurd (hf.unmarked n ts m)
        ends n ts l (inr (u, v, x, fw, m, e)) =
            let sum : length ts ≡ length u + length v = sum_length ts u v e in
            let one : length u ≡ 1 = skipped_length n u fw in
            subst (EndsWith c) (sym e) (ends_behind c u v (hg.ends (n + length u) v (omega arith) m))

        goes_on : (n : ℕ) (ts : List T) → length ts < suc b → (f >>= (λ _. g)).marks n ts →
            Possible ((f >>= (λ _. g)).words n) ts
        goes_on n ts l (inl m) = absurd (hf.unmarked n ts m)
        goes_on n ts l (inr (u, v, x, fw, m, e)) =
            let sum : length ts ≡ length u + length v = sum_length ts u v e in
            let one : length u ≡ 1 = skipped_length n u fw in
            let s = hg.goes_on (n + length u) v (omega arith) m in
            (s.0, s.1, (u, v ++ s.0, x, fw, s.2, ap (λ z. z ++ s.0) e ∙ append_assoc u v s.0))

        marks : (n : ℕ) (ts more : List T) (y : V) → length (ts ++ more) < suc b →
            (f >>= (λ _. g)).words n (ts ++ more) y → left < count_by c ts → EndsWith c ts →
            (f >>= (λ _. g)).marks n ts
        marks n ts more y l (u, v, x, fw, gw, e) lt h =
            let sum : length (ts ++ more) ≡ length u + length v = sum_length (ts ++ more) u v e in
            let none : count_by c u ≡ 0 = skipped_none n u fw in
            let one : length u ≡ 1 = skipped_length n u fw in
            elim (split_front ts more u v e) [
              | inl i ↦ absurd (omega (arith, count_sum c u ts i.0 i.1))
              | inr i ↦
                  let part : count_by c ts ≡ count_by c u + count_by c i.0 = count_sum c ts u i.0 i.1 in
                  let behind : length v ≡ length (i.0 ++ more) = ap length i.2 in
                  inr (
                    u,
                    i.0,
                    x,
                    fw,
                    hg.marks (n + length u) i.0 more y (omega arith)
                        (subst (λ z. g.words (n + length u) z y) i.2 gw) (omega arith)
                        (ends_right c u i.0 (subst (EndsWith c) i.1 h) i.3),
                    i.1,
                  )
            ]

  -- ---- with the numbers of its tokens

  pub counts_placed : {A V : Type 0} (b left : ℕ) (mid : A → ℕ) (out : V → ℕ) (make : ℕ → A → ℕ → V) (f : Form T A) →
      ((n : ℕ) (v : A) (m : ℕ) → out (make n v m) ≡ mid v) → Counts c b left mid f → Counts c b left out (placed make f)
  counts_placed {A} {V} b left mid out make f same hf =
      let h : Counts c b left out (ranged make f) = inside in
      record { has = h.has; spent = h.spent; past = h.past; ends = h.ends; goes_on = h.goes_on; marks = h.marks }
    where
      inside : Counts c b left out (ranged make f)
      inside = counts_then b left (λ _. left) out place (λ first. f >>= (λ v. silent (λ past. make first v past)))
          (counts_silent b left (λ _. left) (λ n. n) (λ n. refl))
          (λ first. counts_then b left mid out f (λ v. silent (λ past. make first v past)) hf
          (λ v. counts_silent b (mid v) out (λ past. make first v past) (λ past. same first v past)))

  -- ---- the one or the other

  pub counts_either : {V : Type 0} (b left : ℕ) (out : V → ℕ) (f g : Form T V) → Counts c b left out f →
      Counts c b left out g → Counts c b left out (either f g)
  counts_either {V} b left out f g hf hg = record {
    has = λ n. let r = hf.has n in (r.0, r.1, inl r.2);
    spent = spent;
    past = past;
    ends = ends;
    goes_on = goes_on;
    marks = marks;
  }
    where
      spent : (n : ℕ) (ts : List T) (y : V) → length ts < b → (either f g).words n ts y →
          out y ≡ left - count_by c ts
      spent n ts y l (inl w) = hf.spent n ts y l w
      spent n ts y l (inr w) = hg.spent n ts y l w

      past : (n : ℕ) (ts : List T) → length ts < b → (either f g).marks n ts → left < count_by c ts
      past n ts l (inl m) = hf.past n ts l m
      past n ts l (inr m) = hg.past n ts l m

      ends : (n : ℕ) (ts : List T) → length ts < b → (either f g).marks n ts → EndsWith c ts
      ends n ts l (inl m) = hf.ends n ts l m
      ends n ts l (inr m) = hg.ends n ts l m

      goes_on : (n : ℕ) (ts : List T) → length ts < b → (either f g).marks n ts → Possible ((either f g).words n) ts
      goes_on n ts l (inl m) = let r = hf.goes_on n ts l m in (r.0, r.1, inl r.2)
      goes_on n ts l (inr m) = let r = hg.goes_on n ts l m in (r.0, r.1, inr r.2)

      marks : (n : ℕ) (ts more : List T) (y : V) → length (ts ++ more) < b →
          (either f g).words n (ts ++ more) y → left < count_by c ts → EndsWith c ts →
          (either f g).marks n ts
      marks n ts more y l (inl w) lt h = inl (hf.marks n ts more y l w lt h)
      marks n ts more y l (inr w) lt h = inr (hg.marks n ts more y l w lt h)

  -- ---- any number of turns

  plus_length : (n : ℕ) (u v : List T) → n + length (u ++ v) ≡ n + length u + length v
  plus_length n u v = omega (arith, length-append u v)

  module _ {S : Type 0} (b : ℕ) (out : S → ℕ) (p : S → T → Bool) (f : S → Form T S)
      (h : (s : S) → Counts c b (out s) out (f s)) where
    loop_spent : (i : ℕ) (s : S) (n : ℕ) (ts : List T) (y : S) → length ts < b → loop_words f i s n ts y →
        out y ≡ out s - count_by c ts
    loop_spent zero s n ts y l (e, ey) =
        let none : length ts ≡ 0 = ap length e in
        let this : out y ≡ out s = ap out ey in
        omega (arith, count_by-le-length c ts)
    loop_spent (suc i) s n ts y l (u, v, x, fw, w, e) =
        let sum : length ts ≡ length u + length v = sum_length ts u v e in
        let count : count_by c ts ≡ count_by c u + count_by c v = count_sum c ts u v e in
        let first : out x ≡ out s - count_by c u = (h s).spent n u x (omega arith) fw in
        let second : out y ≡ out x - count_by c v = loop_spent i x (n + length u) v y (omega arith) w in
        omega arith

    -- one turn more at the end
    loop_more : (i : ℕ) (s : S) (n : ℕ) (u w : List T) (x y : S) → loop_words f i s n u x →
        (f x).words (n + length u) w y → loop_words f (suc i) s n (u ++ w) y
    loop_more zero s n u w x y (e, ex) fw =
        let fw1 : (f s).words (n + length u) w y = subst (λ z. (f z).words (n + length u) w y) ex fw in
        let fw2 : (f s).words (n + 0) w y = subst (λ z. (f s).words (n + length z) w y) e fw1 in (
          w,
          [],
          y,
          subst (λ z. (f s).words z w y) (add-zero n) fw2,
          (refl, refl),
          ap (λ z. z ++ w) e ∙ sym (append-nil w),
        )
    loop_more (suc i) s n u w x y (u1, u2, x1, fw1, lw, e) fw =
        let fw2 : (f x).words (n + length (u1 ++ u2)) w y = subst (λ z. (f x).words (n + length z) w y) e fw in
        let fw3 : (f x).words (n + length u1 + length u2) w y = subst (λ z. (f x).words z w y) (plus_length n u1 u2)
        fw2 in (
          u1,
          u2 ++ w,
          x1,
          fw1,
          loop_more i x1 (n + length u1) u2 w x y lw fw3,
          ap (λ z. z ++ w) e ∙ append_assoc u1 u2 w,
        )

    loop_marks : (i : ℕ) (s : S) (n : ℕ) (ts more : List T) (y : S) → length (ts ++ more) < b →
        loop_words f i s n (ts ++ more) y → out s < count_by c ts → EndsWith c ts → (loop p f s).marks n ts
    loop_marks zero s n ts more y l (e, ey) lt last =
        let none : length (ts ++ more) ≡ 0 = ap length e in
        absurd (omega (arith, length-append ts more, count_by-le-length c ts))
    loop_marks (suc i) s n ts more y l (u, v, x, fw, w, e) lt last =
        let sum : length (ts ++ more) ≡ length u + length v = sum_length (ts ++ more) u v e in
        let first : out x ≡ out s - count_by c u = (h s).spent n u x (omega arith) fw in
        elim (split_front ts more u v e) [
          | inl d ↦ (
            0,
            [],
            ts,
            s,
            (refl, refl),
            subst (λ z. (f s).marks z ts) (sym (add-zero n))
                ((h s).marks n ts d.0 x (subst (λ z. length z < b) d.1 (omega arith))
                (subst (λ z. (f s).words n z x) d.1 fw) lt last),
            refl,
          )
          | inr d ↦
              let part : count_by c ts ≡ count_by c u + count_by c d.0 = count_sum c ts u d.0 d.1 in
              let end : EndsWith c d.0 = ends_right c u d.0 (subst (EndsWith c) d.1 last) d.3 in
              let some : 0 < count_by c d.0 = ends_counts c d.0 end in
              let m = loop_marks i x (n + length u) d.0 more y (subst (λ z. length z < b) d.2 (omega arith))
              (subst (λ z. loop_words f i x (n + length u) z y) d.2 w) (omega arith) end in (
                suc m.0,
                u ++ m.1,
                m.2,
                m.3,
                (u, m.1, x, fw, m.4, refl),
                subst (λ z. (f m.3).marks z m.2) (sym (plus_length n u m.1)) m.5,
                d.1 ∙ ap (λ z. u ++ z) m.6 ∙ sym (append_assoc u m.1 m.2),
              )
        ]

    pub counts_loop : (s : S) → Counts c b (out s) out (loop p f s)
    counts_loop s = record {
      has = λ n. ([], s, (0, (refl, refl)));
      spent = λ n ts v l w. loop_spent w.0 s n ts v l w.1;
      past = past;
      ends = ends;
      goes_on = goes_on;
      marks = λ n ts more v l w lt last. loop_marks w.0 s n ts more v l w.1 lt last;
    }
      where
        past : (n : ℕ) (ts : List T) → length ts < b → (loop p f s).marks n ts → out s < count_by c ts
        past n ts l (i, u, v, x, w, m, e) =
            let sum : length ts ≡ length u + length v = sum_length ts u v e in
            let count : count_by c ts ≡ count_by c u + count_by c v = count_sum c ts u v e in
            let first : out x ≡ out s - count_by c u = loop_spent i s n u x (omega arith) w in
            let second : out x < count_by c v = (h x).past (n + length u) v (omega arith) m in
            omega arith

        ends : (n : ℕ) (ts : List T) → length ts < b → (loop p f s).marks n ts → EndsWith c ts
        ends n ts l (i, u, v, x, w, m, e) =
            let sum : length ts ≡ length u + length v = sum_length ts u v e in
            subst (EndsWith c) (sym e) (ends_behind c u v ((h x).ends (n + length u) v (omega arith) m))

        goes_on : (n : ℕ) (ts : List T) → length ts < b → (loop p f s).marks n ts → Possible ((loop p f s).words n) ts
        goes_on n ts l (i, u, v, x, w, m, e) =
            let sum : length ts ≡ length u + length v = sum_length ts u v e in
            let g = (h x).goes_on (n + length u) v (omega arith) m in (
              g.0,
              g.1,
              (
                suc i,
                subst (λ z. loop_words f (suc i) s n z g.1)
                    (sym (ap (λ z. z ++ g.0) e ∙ append_assoc u v g.0)) (loop_more i s n u (v ++ g.0) x g.1 w g.2),
              ),
            )

  -- ---- a form that stands in itself

  pub counts_nested : {V : Type 0} (out : V → ℕ) (p : T → Bool) (body : (ℕ → Form T V) → ℕ → Form T V) → Grows body →
      Lessens body → ((left n : ℕ) → (w : List T) × (v : V) × (nested p body left).words n w v) →
      ((b : ℕ) → ((left : ℕ) → Counts c b left out (nested p body left)) → (left : ℕ) →
      Counts c (suc b) left out (body (nested p body) left)) → (b left : ℕ) →
      Counts c b left out (nested p body left)
  counts_nested out p body grows lessens word step zero left = record {
    has = word left;
    spent = λ n ts v l w. absurd (omega arith);
    past = λ n ts l m. absurd (omega arith);
    ends = λ n ts l m. absurd (omega arith);
    goes_on = λ n ts l m. absurd (omega arith);
    marks = λ n ts more v l w lt last. absurd (omega arith);
  }
  counts_nested out p body grows lessens word step (suc b) left =
      let h : Counts c (suc b) left out (body (nested p body) left) =
      step b (counts_nested out p body grows lessens word step b) left in
      record {
        has = word left;
        spent = λ n ts v l w. h.spent n ts v l (same.no_words n ts v w);
        past = λ n ts l m. h.past n ts l (same.no_marks n ts m);
        ends = λ n ts l m. h.ends n ts l (same.no_marks n ts m);
        goes_on = λ n ts l m. let g = h.goes_on n ts l (same.no_marks n ts m)
            in (g.0, g.1, same.words n (ts ++ g.0) g.1 g.2);
        marks = λ n ts more v l w lt last. same.marks n ts
            (h.marks n ts more v l (same.no_words n (ts ++ more) v w) lt last);
      }
    where
      same : Same (body (nested p body) left) (nested p body left)
      same = unroll p body grows lessens left

  -- ---- which fronts are marks, and which is the first

  module _ {V : Type 0} (left : ℕ) (out : V → ℕ) (f : Form T V) (h : (b : ℕ) → Counts c b left out f) (n : ℕ) where
    -- what ends with a token that counts and has too many is marked
    pub marked : (front more : List T) (v : V) → f.words n (front ++ more) v → left < count_by c front →
        EndsWith c front → f.marks n front
    marked front more v w lt last = (h (suc (length (front ++ more)))).marks n front more v (omega arith) w lt last

    pub marks_are : (front : List T) → f.marks n front ↔
        (EndsWith c front × (left < count_by c front) × Possible (f.words n) front)
    marks_are front = (
      λ m. (
        there.ends n front (omega arith) m,
        there.past n front (omega arith) m,
        there.goes_on n front (omega arith) m,
      ),
      λ (last, lt, (more, v, w)). marked front more v w lt last,
    )
      where
        there : Counts c (suc (length front)) left out f
        there = h (suc (length front))

    -- a front that has too many has a mark in it
    not_unmarked : (front more : List T) (v : V) → f.words n (front ++ more) v → left < count_by c front →
        Unmarked (f.marks n) front → ⊥
    not_unmarked front more v w lt un =
        let t = trimmed c front (omega arith) in
        un t.0 t.1 t.2 (marked t.0 (t.1 ++ more) v
        (subst (λ z. f.words n z v) (ap (λ z. z ++ more) t.2 ∙ append_assoc t.0 t.1 more) w) (omega (arith, t.4))
        t.3)

    -- the first mark ends with the token that is one too many
    pub first_mark : (front : List T) (t : T) → IsFirstMark (f.marks n) front t ↔
        ((c t ≡ true) × (count_by c front ≡ left) × Possible (f.words n) (front ++ t ∷ []))
    first_mark front t = (there, back)
      where
        there : IsFirstMark (f.marks n) front t →
            (c t ≡ true) × (count_by c front ≡ left) × Possible (f.words n) (front ++ t ∷ [])
        there (m, un) =
            let k = (marks_are (front ++ t ∷ [])).0 m in
            let possible : Possible (f.words n) (front ++ t ∷ []) = k.2 in
            let last : EndsWith c (t ∷ []) = ends_right c front (t ∷ []) k.0 (omega arith) in
            let this : c t ≡ true = only_last last in
            let word : f.words n (front ++ (t ∷ possible.0)) possible.1 =
            subst (λ z. f.words n z possible.1) (append_assoc front (t ∷ []) possible.0) possible.2 in
            let no : left < count_by c front → ⊥ = λ lt. not_unmarked front (t ∷ possible.0) possible.1 word lt un in
            (this, omega (arith, no, k.1, count_append c front (t ∷ []), count_one c t this), possible)
          where
            only_last : EndsWith c (t ∷ []) → c t ≡ true
            only_last ([], x, e, cx) = subst (λ z. c z ≡ true) (sym (head_is t x [] [] e)) cx
            only_last (y ∷ ys, x, e, cx) =
                let len : 0 ≡ length (ys ++ x ∷ []) = ap length (tail_is t y [] (ys ++ x ∷ []) e) in
                absurd (omega (arith, length-append ys (x ∷ [])))

        back : (c t ≡ true) × (count_by c front ≡ left) × Possible (f.words n) (front ++ t ∷ []) →
            IsFirstMark (f.marks n) front t
        back (this, count, (more, v, w)) = (
          marked (front ++ t ∷ []) more v w
              (omega (arith, count_append c front (t ∷ []), count_one c t this, count)) (front, t, refl, this),
          λ u r e m. absurd (omega (arith, ((marks_are u).0 m).1, count_sum c front u r e, count)),
        )
