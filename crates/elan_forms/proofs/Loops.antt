-- Any number of turns is read exactly, where the next token tells whether there is one more.
use Rattle.std.proofs.Common.{◌≡◌, ℕ, zero, suc, ◌+◌, ◌<◌, ◌≤◌, Bool, true, false, cond, List, [], ◌∷◌, ◌++◌, length, ◌⊎◌, inl, inr, refl, sym, ap, subst, ◌∙◌, append_assoc, arith, add-zero}
use Rattle.elan_forms.specs.Whole.{Answer, done, refused, stuck, over, Gives}
use Rattle.elan_forms.specs.Form.{Form, ◌>>=◌, after, loop, next_turn, begins_with, turns}
use Rattle.elan_forms.proofs.Steps.{widen, SameStart}
use Rattle.elan_forms.proofs.Exact.{Good, Clear, Exact, Eats, Starts, Begins, Follows, weaker, begins_bind, Apart, plus_length}
use Rattle.elan_forms.proofs.Lengths.{Shrinks, Keeps}

next_turn_same : {T A B : Type 0} (a : Answer T A) (g h : A → ℕ → List T → Answer T B) →
    ((v : A) (m : ℕ) (r : List T) → a ≡ done v m r → g v m r ≡ h v m r) → next_turn a g ≡ next_turn a h
next_turn_same (done v m r) g h e = e v m r refl
next_turn_same (refused why r) g h e = refl

after_next : {T A B R : Type 0} (a : Answer T A) (g : A → ℕ → List T → Answer T B) (k : B → Form T R)
    (h : A → Form T R) →
    ((v : A) (m : ℕ) (r : List T) → a ≡ done v m r → (h v).read m r ≡ after (g v m r) k) → after a h ≡ after
    (next_turn a g) k
after_next (done v m r) g k h e = e v m r refl
after_next (refused why r) g k h e = refl

-- enough turns are enough
pub turns_enough : {T S : Type 0} (p : S → T → Bool) (f : S → Form T S) → ((s : S) → Shrinks (f s)) →
    (a b : ℕ) (s : S) (n : ℕ) (ts : List T) →
    length ts ≤ a → length ts ≤ b → turns p f a s n ts ≡ turns p f b s n ts
unfolding turns
turns_enough p f h zero zero s n ts la lb = refl
turns_enough p f h zero (suc b) s n [] la lb = refl
turns_enough p f h zero (suc b) s n (t ∷ ts) la lb = absurd (omega arith)
turns_enough p f h (suc a) zero s n [] la lb = refl
turns_enough p f h (suc a) zero s n (t ∷ ts) la lb = absurd (omega arith)
turns_enough p f h (suc a) (suc b) s n ts la lb =
    ap (λ z. cond (begins_with (p s) ts) z (done s n ts))
    (next_turn_same ((f s).read n ts) (turns p f a) (turns p f b)
    (λ v m r e. turns_enough p f h a b v m r (omega (arith, h s n ts v m r e)) (omega (arith, h s n ts v m r e))))

pub turns_keep : {T S : Type 0} (p : S → T → Bool) (f : S → Form T S) → ((s : S) → Shrinks (f s)) →
    (a : ℕ) (s : S) (n : ℕ) (ts : List T) (v : S) (m : ℕ) (r : List T) →
    turns p f a s n ts ≡ done v m r → length r ≤ length ts
unfolding turns
turns_keep p f h zero s n ts v m r e = let e2 : r ≡ ts = cc in rw e2 (omega arith)
turns_keep {T} {S} p f h (suc a) s n ts v m r e = go (λ y j rest e2. turns_keep p f h a y j rest v m r e2)
    (begins_with (p s) ts) ((f s).read n ts) refl e
  where
    go : ((y : S) (j : ℕ) (rest : List T) → turns p f a y j rest ≡ done v m r → length r ≤ length rest) →
        (d : Bool) (x : Answer T S) → (f s).read n ts ≡ x →
        cond d (next_turn x (turns p f a)) (done s n ts) ≡ done v m r → length r ≤ length ts
    go again false x ex e2 = let e3 : r ≡ ts = cc in rw e3 (omega arith)
    go again true (done y j rest) ex e2 = omega (arith, h s n ts y j rest ex, again y j rest e2)
    go again true (stuck rest) ex e2 = absurd cc
    go again true (over rest) ex e2 = absurd cc

module _ {T S R : Type 0} (p : S → T → Bool) (f : S → Form T S) (k : S → Form T R) (s : S) (n : ℕ) where
  pub none_in : (ts : List T) (y : R) → (k s).words n ts y → (loop p f s >>= k).words n ts y
  none_in ts y w = ([], ts, s, (0, (refl, refl)), subst (λ z. (k s).words z ts y) (sym (add-zero n)) w, refl)

  none_mark : (ts : List T) → (k s).marks n ts → (loop p f s >>= k).marks n ts
  none_mark ts w = inr ([], ts, s, (0, (refl, refl)), subst (λ z. (k s).marks z ts) (sym (add-zero n)) w, refl)

  pub more_in : (ts : List T) (y : R) → (f s >>= (λ x. loop p f x >>= k)).words n ts y → (loop p f s >>= k).words n ts y
  more_in ts y (u, v, x, fw, (u2, v2, z, (i, mw), kw, s2), e) = (
    u ++ u2,
    v2,
    z,
    (suc i, (u, u2, x, fw, mw, refl)),
    subst (λ m. (k z).words m v2 y) (sym (plus_length n u u2))
        kw,
    e ∙ ap (λ m. u ++ m) s2 ∙ sym (append_assoc u u2 v2),
  )

  more_mark : (ts : List T) → (f s >>= (λ x. loop p f x >>= k)).marks n ts → (loop p f s >>= k).marks n ts
  more_mark ts (inl m) = inl (0, [], ts, s, (refl, refl), subst (λ z. (f s).marks z ts) (sym (add-zero n)) m, refl)
  more_mark ts (inr (u, v, x, fw, inl (i, u2, v2, z, mw, m, s2), e)) =
      inl (
        suc i,
        u ++ u2,
        v2,
        z,
        (u, u2, x, fw, mw, refl),
        subst (λ j. (f z).marks j v2) (sym (plus_length n u u2))
            m,
        e ∙ ap (λ m. u ++ m) s2 ∙ sym (append_assoc u u2 v2),
      )
  more_mark ts (inr (u, v, x, fw, inr (u2, v2, z, (i, mw), kw, s2), e)) =
      inr (
        u ++ u2,
        v2,
        z,
        (suc i, (u, u2, x, fw, mw, refl)),
        subst (λ m. (k z).marks m v2) (sym (plus_length n u u2))
            kw,
        e ∙ ap (λ m. u ++ m) s2 ∙ sym (append_assoc u u2 v2),
      )

  pub loop_out : (ts : List T) (y : R) → (loop p f s >>= k).words n ts y →
      (k s).words n ts y ⊎ (f s >>= (λ x. loop p f x >>= k)).words n ts y
  loop_out ts y (w, v2, z, (zero, (ew, ez)), kw, e) =
      let kw1 : (k s).words (n + length w) v2 y = subst (λ j. (k j).words (n + length w) v2 y) ez kw in
      let kw2 : (k s).words (n + 0) v2 y = subst (λ j. (k s).words (n + length j) v2 y) ew kw1 in
      inl (subst (λ j. (k s).words n j y) (sym (e ∙ ap (λ j. j ++ v2) ew))
      (subst (λ j. (k s).words j v2 y) (add-zero n) kw2))
  loop_out ts y (w, v2, z, (suc i, (u, u2, x, fw, mw, s2)), kw, e) =
      let kw2 : (k z).words (n + length (u ++ u2)) v2 y = subst (λ m. (k z).words (n + length m) v2 y) s2 kw in
      inr (
        u,
        u2 ++ v2,
        x,
        fw,
        (u2, v2, z, (i, mw), subst (λ m. (k z).words m v2 y) (plus_length n u u2) kw2, refl),
        e
            ∙ ap (λ m. m ++ v2) s2 ∙ append_assoc u u2 v2,
      )

  loop_mark_out : (ts : List T) → (loop p f s >>= k).marks n ts →
      (k s).marks n ts ⊎ (f s >>= (λ x. loop p f x >>= k)).marks n ts
  loop_mark_out ts (inl (zero, w, v2, z, (ew, ez), m, e)) =
      let m1 : (f s).marks (n + length w) v2 = subst (λ j. (f j).marks (n + length w) v2) ez m in
      let m2 : (f s).marks (n + 0) v2 = subst (λ j. (f s).marks (n + length j) v2) ew m1 in
      inr (inl (subst (λ j. (f s).marks n j) (sym (e ∙ ap (λ j. j ++ v2) ew))
      (subst (λ j. (f s).marks j v2) (add-zero n) m2)))
  loop_mark_out ts (inl (suc i, w, v2, z, (u, u2, x, fw, mw, s2), m, e)) =
      let m2 : (f z).marks (n + length (u ++ u2)) v2 = subst (λ j. (f z).marks (n + length j) v2) s2 m in
      inr (inr (
        u,
        u2 ++ v2,
        x,
        fw,
        inl (
          i,
          u2,
          v2,
          z,
          mw,
          subst (λ j. (f z).marks j v2) (plus_length n u u2) m2,
          refl,
        ),
        e ∙ ap (λ j. j ++ v2) s2 ∙ append_assoc u u2 v2,
      ))
  loop_mark_out ts (inr (w, v2, z, (zero, (ew, ez)), kw, e)) =
      let kw1 : (k s).marks (n + length w) v2 = subst (λ j. (k j).marks (n + length w) v2) ez kw in
      let kw2 : (k s).marks (n + 0) v2 = subst (λ j. (k s).marks (n + length j) v2) ew kw1 in
      inl (subst (λ j. (k s).marks n j) (sym (e ∙ ap (λ j. j ++ v2) ew))
      (subst (λ j. (k s).marks j v2) (add-zero n) kw2))
  loop_mark_out ts (inr (w, v2, z, (suc i, (u, u2, x, fw, mw, s2)), kw, e)) =
      let kw2 : (k z).marks (n + length (u ++ u2)) v2 = subst (λ m. (k z).marks (n + length m) v2) s2 kw in
      inr (inr (
        u,
        u2 ++ v2,
        x,
        fw,
        inr (
          u2,
          v2,
          z,
          (i, mw),
          subst (λ m. (k z).marks m v2) (plus_length n u u2) kw2,
          refl,
        ),
        e ∙ ap (λ m. m ++ v2) s2 ∙ append_assoc u u2 v2,
      ))

module _ {T S : Type 0} (p : S → T → Bool) (f : S → Form T S) (begins : (s : S) → Begins (p s) (f s)) where
  loop_clear_words : (q r : T → Bool) → ((s : S) → Apart (p s) q) → (s : S) → ((t : T) → q t ≡ true → r t ≡ true) →
      (R : Type 0) (k : S → Form T R) → ((v : S) → Clear r (k v)) →
      (n : ℕ) (t : T) (ts : List T) → q t ≡ true → (v : R) → (loop p f s >>= k).words n (t ∷ ts) v → ⊥
  loop_clear_words q r apart s more R k c n t ts qt v w = elim (loop_out p f k s n (t ∷ ts) v w) [
    | inl l ↦ (c s n t ts (more t qt)).0 v l
    | inr x ↦ apart s t ((begins_bind (p s) (f s) (λ x. loop p f x >>= k) (begins s)).words n (t ∷ ts) v x) qt
  ]

  loop_clear_marks : (q r : T → Bool) → ((s : S) → Apart (p s) q) → (s : S) → ((t : T) → q t ≡ true → r t ≡ true) →
      (R : Type 0) (k : S → Form T R) → ((v : S) → Clear r (k v)) →
      (n : ℕ) (t : T) (ts : List T) → q t ≡ true → (loop p f s >>= k).marks n (t ∷ ts) → ⊥
  loop_clear_marks q r apart s more R k c n t ts qt w = elim (loop_mark_out p f k s n (t ∷ ts) w) [
    | inl l ↦ (c s n t ts (more t qt)).1 l
    | inr x ↦ apart s t ((begins_bind (p s) (f s) (λ x. loop p f x >>= k) (begins s)).marks n (t ∷ ts) x) qt
  ]

  -- what follows any number of turns
  pub loop_follows : (q r : T → Bool) → ((s : S) → Apart (p s) q) → (s : S) → ((t : T) → q t ≡ true → r t ≡ true) →
      Follows q r (loop p f s)
  loop_follows q r apart s more = record {
    follows = λ R k c n t ts qt.
        (loop_clear_words q r apart s more R k c n t ts qt, loop_clear_marks q r apart s more R k c n t ts qt);
  }

  pub loop_keeps : ((s : S) → Shrinks (f s)) → (s : S) → Keeps (loop p f s)
  loop_keeps h s n ts v m r e = turns_keep p f h (length ts) s n ts v m r e

  not_more : (s : S) (ts x : List T) → begins_with (p s) ts ≡ false → SameStart ts x → Starts (p s) x → ⊥
  not_more s [] [] e a h = h
  not_more s [] (y ∷ x) e a h = a
  not_more s (t ∷ ts) [] e a h = a
  not_more s (t ∷ ts) (y ∷ x) e a h = let b : p s t ≡ true = subst (λ z. p s z ≡ true) (sym a) h in cc

  loop_solid : {R : Type 0} (k : S → Form T R) (s : S) → ((n : ℕ) → (k s).marks n [] → ⊥) → (n : ℕ) →
      (loop p f s >>= k).marks n [] → ⊥
  loop_solid k s h n m = elim (loop_mark_out p f k s n [] m) [
    | inl l ↦ h n l
    | inr r ↦ (begins_bind (p s) (f s) (λ x. loop p f x >>= k) (begins s)).marks n [] r
  ]

  when_none : {R : Type 0} (k : S → Form T R) (s : S) (n : ℕ) (ts : List T) (a : Answer T R) →
      begins_with (p s) ts ≡ false → ((n : ℕ) → (k s).marks n [] → ⊥) →
      Gives ((k s).words n) ((k s).marks n) ts a → Gives ((loop p f s >>= k).words n) ((loop p f s >>= k).marks n) ts a
  when_none {R} k s n ts a e solid = widen ((k s).words n) ((loop p f s >>= k).words n) ((k s).marks n)
      ((loop p f s >>= k).marks n) ts a
      (record {
        words = λ x v w. none_in p f k s n x v w;
        marks = λ x w. none_mark p f k s n x w;
        no_words = out;
        no_marks = mark;
        solid = loop_solid k s solid n;
      })
    where
      out : (x : List T) (v : R) → SameStart ts x → (loop p f s >>= k).words n x v → (k s).words n x v
      out x v a w = elim (loop_out p f k s n x v w) [
        | inl l ↦ l
        | inr r ↦ absurd (not_more s ts x e a ((begins_bind (p s) (f s) (λ x. loop p f x >>= k) (begins s)).words n x
            v r))
      ]

      mark : (x : List T) → SameStart ts x → (loop p f s >>= k).marks n x → (k s).marks n x
      mark x a w = elim (loop_mark_out p f k s n x w) [
        | inl l ↦ l
        | inr r ↦ absurd (not_more s ts x e a ((begins_bind (p s) (f s) (λ x. loop p f x >>= k) (begins s)).marks n x
            r))
      ]

  when_more : {R : Type 0} (k : S → Form T R) (s : S) (n : ℕ) (t : T) (ts : List T) (a : Answer T R) → p s t ≡ true →
      Clear (p s) (k s) → ((n : ℕ) → (k s).marks n [] → ⊥) →
      Gives ((f s >>= (λ x. loop p f x >>= k)).words n) ((f s >>= (λ x. loop p f x >>= k)).marks n) (t ∷ ts) a →
      Gives ((loop p f s >>= k).words n) ((loop p f s >>= k).marks n) (t ∷ ts) a
  when_more {R} k s n t ts a e clear solid =
      widen ((f s >>= (λ x. loop p f x >>= k)).words n) ((loop p f s >>= k).words n)
      ((f s >>= (λ x. loop p f x >>= k)).marks n) ((loop p f s >>= k).marks n) (t ∷ ts) a
      (record {
        words = λ x v w. more_in p f k s n x v w;
        marks = λ x w. more_mark p f k s n x w;
        no_words = out;
        no_marks = mark;
        solid = loop_solid k s solid n;
      })
    where
      not_none : (x : List T) (v : R) → SameStart (t ∷ ts) x → (k s).words n x v → ⊥
      not_none [] v a w = a
      not_none (y ∷ x) v a w = (clear n y x (subst (λ z. p s z ≡ true) a e)).0 v w

      not_none_mark : (x : List T) → SameStart (t ∷ ts) x → (k s).marks n x → ⊥
      not_none_mark [] a w = a
      not_none_mark (y ∷ x) a w = (clear n y x (subst (λ z. p s z ≡ true) a e)).1 w

      out : (x : List T) (v : R) → SameStart (t ∷ ts) x → (loop p f s >>= k).words n x v →
          (f s >>= (λ x. loop p f x >>= k)).words n x v
      out x v a w = elim (loop_out p f k s n x v w) [
        | inl l ↦ absurd (not_none x v a l)
        | inr r ↦ r
      ]

      mark : (x : List T) → SameStart (t ∷ ts) x → (loop p f s >>= k).marks n x →
          (f s >>= (λ x. loop p f x >>= k)).marks n x
      mark x a w = elim (loop_mark_out p f k s n x w) [
        | inl l ↦ absurd (not_none_mark x a l)
        | inr r ↦ r
      ]

  -- one turn and then more
  turn_read : {R : Type 0} (k : S → Form T R) → ((s : S) → Shrinks (f s)) → (s : S) (n : ℕ) (ts rest : List T) →
      length ts ≡ suc (length rest) →
      after ((f s).read n ts) (λ x. loop p f x >>= k) ≡ after (next_turn ((f s).read n ts) (turns p f (length rest))) k
  turn_read {R} k shrinks s n ts rest len =
      after_next ((f s).read n ts) (turns p f (length rest)) k (λ x. loop p f x >>= k)
      (λ v m r e. ap (λ z. after z k) (turns_enough p f shrinks (length r) (length rest) v m r (omega arith)
      (omega (arith, shrinks s n ts v m r e))))

  loop_reads : {R : Type 0} (b : ℕ) (k : S → Form T R) → ((s : S) → Shrinks (f s)) → (s : S) → Good (suc b) (k s) →
      Clear (p s) (k s) →
      Good (suc b) (f s >>= (λ x. loop p f x >>= k)) →
      (n : ℕ) (ts : List T) → length ts < suc b → Gives ((loop p f s >>= k).words n) ((loop p f s >>= k).marks n) ts
      (after (turns p f (length ts) s n ts) k)
  unfolding turns
  loop_reads {R} b k shrinks s h c next n [] lt = when_none k s n [] ((k s).read n []) refl h.solid (h.reads n [] lt)
  loop_reads {R} b k shrinks s h c next n (t ∷ ts) lt = go (p s t) refl
    where
      go : (d : Bool) → p s t ≡ d →
          Gives ((loop p f s >>= k).words n) ((loop p f s >>= k).marks n) (t ∷ ts)
          (after (cond d (next_turn ((f s).read n (t ∷ ts)) (turns p f (length ts))) (done s n (t ∷ ts))) k)
      go true e = when_more k s n t ts _ e c h.solid
          (subst (λ a. Gives ((f s >>= (λ x. loop p f x >>= k)).words n) ((f s >>= (λ x. loop p f x >>= k)).marks n)
          (t ∷ ts) a)
          (turn_read k shrinks s n (t ∷ ts) ts refl) (next.reads n (t ∷ ts) lt))
      go false e = when_none k s n (t ∷ ts) ((k s).read n (t ∷ ts)) e h.solid (h.reads n (t ∷ ts) lt)

  pub loop_good : {R : Type 0} (m : ℕ) (q : T → Bool) → ((s : S) → Eats m q (f s)) → ((s : S) → Shrinks (f s)) →
      ((s : S) → Apart (p s) q) →
      (b : ℕ) → b ≤ m → (k : S → Form T R) → ((s : S) → Good b (k s)) → ((s : S) → Clear (p s) (k s)) →
      ((s : S) → Clear q (k s)) → (s : S) → Good b (loop p f s >>= k)
  loop_good m q ef shrinks apart zero lm k h c c2 s = record {
    has = λ n. let r = (h s).has n in (r.0, r.1, none_in p f k s n r.0 r.1 r.2);
    solid = loop_solid k s (h s).solid;
    reads = λ n ts lt. absurd (omega arith);
  }
  loop_good {R} m q ef shrinks apart (suc b) lm k h c c2 s =
      let next = ef s R (λ x. loop p f x >>= k) b (omega arith)
      (λ x. loop_good m q ef shrinks apart b (omega arith) k (λ y. weaker b (k y) (h y)) c c2 x)
      (λ x. (loop_follows q q apart x (λ t e. e)).follows R k c2) in
      record {
        has = λ n. let r = (h s).has n in (r.0, r.1, none_in p f k s n r.0 r.1 r.2);
        solid = loop_solid k s (h s).solid;
        reads = loop_reads b k shrinks s (h s) (c s) next;
      }

  pub loop_exact : (m : ℕ) (q r : T → Bool) → ((s : S) → Eats m q (f s)) → ((s : S) → Shrinks (f s)) →
      ((s : S) → Apart (p s) q) →
      ((s : S) (t : T) → p s t ≡ true → r t ≡ true) → ((t : T) → q t ≡ true → r t ≡ true) → (s : S) → Exact m r
      (loop p f s)
  loop_exact m q r ef shrinks apart l g s R k b lm h c =
      loop_good m q ef shrinks apart b lm k h (λ x n t ts e. c x n t ts (l x t e)) (λ x n t ts e. c x n t ts (g t e)) s
