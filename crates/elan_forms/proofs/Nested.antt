-- A form that stands in itself reads exactly, where its body does; and a form whose tokens are counted.
use Rattle.std.proofs.Common.{◌≡◌, ℕ, zero, suc, ◌+◌, ◌-◌, ◌<◌, ◌≤◌, Bool, true, false, cond, List, [], ◌∷◌, ◌++◌, length, ◌⊎◌, inl, inr, refl, sym, ap, subst, ◌∙◌, arith, length-append}
use Rattle.elan_forms.specs.Whole.{Answer, done, refused, stuck, over, Gives}
use Rattle.elan_forms.specs.Form.{Form, ◌>>=◌, after, token, silent, place, ranged, placed, either, loop, loop_words, next_turn, begins_with, turns, level, nested, counted, read_counted}
use Rattle.elan_forms.proofs.Steps.{head_is, tail_is, unmarked_none, step, widen}
use Rattle.elan_forms.proofs.Exact.{no, Exact, Eats, Starts, Begins, Same, good_same, weaker, begins_bind}
use Rattle.elan_forms.proofs.Lengths.{Shrinks, Keeps, silent_keeps}

-- two forms that agree on texts shorter than a bound
pub record Alike {T V : Type 0} (b : ℕ) (f g : Form T V) : Type 0 where
  pub words : (n : ℕ) (ts : List T) (v : V) → length ts < b → f.words n ts v → g.words n ts v
  pub no_words : (n : ℕ) (ts : List T) (v : V) → length ts < b → g.words n ts v → f.words n ts v
  pub marks : (n : ℕ) (ts : List T) → length ts < b → f.marks n ts → g.marks n ts
  pub no_marks : (n : ℕ) (ts : List T) → length ts < b → g.marks n ts → f.marks n ts
  pub read : (n : ℕ) (ts : List T) → length ts < b → f.read n ts ≡ g.read n ts

pub alike_refl : {T V : Type 0} (b : ℕ) (f : Form T V) → Alike b f f
alike_refl b f = record {
  words = λ n ts v l w. w;
  no_words = λ n ts v l w. w;
  marks = λ n ts l w. w;
  no_marks =
      λ n ts l w. w;
  read = λ n ts l. refl;
}

pub alike_less : {T V : Type 0} (a b : ℕ) (f g : Form T V) → a ≤ b → Alike b f g → Alike a f g
alike_less a b f g le h = record {
  words = λ n ts v l w. h.words n ts v (omega arith) w;
  no_words = λ n ts v l w. h.no_words n ts v (omega arith) w;
  marks = λ n ts l w. h.marks n ts (omega arith) w;
  no_marks = λ n ts l w. h.no_marks n ts (omega arith) w;
  read = λ n ts l. h.read n ts (omega arith);
}

right_short : {T : Type 0} (b : ℕ) (ts u v : List T) → length ts < b → ts ≡ u ++ v → length v < b
right_short b ts u v l e = let e2 : length ts ≡ length (u ++ v) = ap length e in omega (arith, length-append u v)

left_short : {T : Type 0} (b : ℕ) (ts u v : List T) → length ts < b → ts ≡ u ++ v → length u < b
left_short b ts u v l e = let e2 : length ts ≡ length (u ++ v) = ap length e in omega (arith, length-append u v)

after_same : {T A B : Type 0} (a : Answer T A) (g h : A → Form T B) →
    ((x : A) (m : ℕ) (r : List T) → a ≡ done x m r → (g x).read m r ≡ (h x).read m r) → after a g ≡ after a h
after_same (done x m r) g h e = e x m r refl
after_same (refused why r) g h e = refl

pub bind_alike : {T A B : Type 0} (b : ℕ) (f f' : Form T A) (g g' : A → Form T B) → Keeps f → Alike b f f' →
    ((x : A) → Alike b (g x) (g' x)) → Alike b (f >>= g) (f' >>= g')
bind_alike {T} {A} {B} b f f' g g' keeps hf hg = record {
  words = words;
  no_words = no_words;
  marks = marks;
  no_marks = no_marks;
  read = read;
}
  where
    words : (n : ℕ) (ts : List T) (y : B) → length ts < b → (f >>= g).words n ts y → (f' >>= g').words n ts y
    words n ts y l (u, v, x, fw, w, e) = (
      u,
      v,
      x,
      hf.words n u x (left_short b ts u v l e) fw,
      (hg x).words _ v y
          (right_short b ts u v l e) w,
      e,
    )

    no_words : (n : ℕ) (ts : List T) (y : B) → length ts < b → (f' >>= g').words n ts y → (f >>= g).words n ts y
    no_words n ts y l (u, v, x, fw, w, e) = (
      u,
      v,
      x,
      hf.no_words n u x (left_short b ts u v l e) fw,
      (hg x).no_words
          _ v y (right_short b ts u v l e) w,
      e,
    )

    marks : (n : ℕ) (ts : List T) → length ts < b → (f >>= g).marks n ts → (f' >>= g').marks n ts
    marks n ts l (inl m) = inl (hf.marks n ts l m)
    marks n ts l (inr (u, v, x, fw, w, e)) = inr (
      u,
      v,
      x,
      hf.words n u x (left_short b ts u v l e) fw,
      (hg x).marks _
          v (right_short b ts u v l e) w,
      e,
    )

    no_marks : (n : ℕ) (ts : List T) → length ts < b → (f' >>= g').marks n ts → (f >>= g).marks n ts
    no_marks n ts l (inl m) = inl (hf.no_marks n ts l m)
    no_marks n ts l (inr (u, v, x, fw, w, e)) = inr (
      u,
      v,
      x,
      hf.no_words n u x (left_short b ts u v l e) fw,
      (hg x).no_marks _ v (right_short b ts u v l e) w,
      e,
    )

    read : (n : ℕ) (ts : List T) → length ts < b → (f >>= g).read n ts ≡ (f' >>= g').read n ts
    read n ts l = after_same (f.read n ts) g g' (λ x m r e. (hg x).read m r (omega (arith, keeps n ts x m r e))) ∙ ap
        (λ a. after a g') (hf.read n ts l)

pub placed_alike : {T V S : Type 0} (b : ℕ) (make : ℕ → V → ℕ → S) (f g : Form T V) → Keeps f → Alike b f g →
    Alike b (placed make f) (placed make g)
placed_alike b make f g keeps h =
    let e : Alike b (ranged make f) (ranged make g) =
    bind_alike b place place _ _ (silent_keeps (λ n. n)) (alike_refl b place)
    (λ first. bind_alike b f g _ _ keeps h (λ v. alike_refl b (silent (make first v)))) in
    record { words = e.words; no_words = e.no_words; marks = e.marks; no_marks = e.no_marks; read = e.read }

-- behind a token the bound is one more
pub token_alike : {T B : Type 0} (b : ℕ) (p : T → Bool) (g g' : T → Form T B) → ((x : T) → Alike b (g x) (g' x)) →
    Alike (suc b) (token p >>= g) (token p >>= g')
token_alike {T} {B} b p g g' hg = record {
  words = words;
  no_words = no_words;
  marks = marks;
  no_marks = no_marks;
  read = read;
}
  where
    short : (ts u v : List T) (x : T) → length ts < suc b → ts ≡ u ++ v → u ≡ x ∷ [] → length v < b
    short ts u v x l e eu = let e2 : length ts ≡ suc (length v) = ap length (e ∙ ap (λ z. z ++ v) eu) in omega arith

    words : (n : ℕ) (ts : List T) (y : B) → length ts < suc b → (token p >>= g).words n ts y →
        (token p >>= g').words n ts y
    words n ts y l (u, v, x, fw, w, e) = (u, v, x, fw, (hg x).words _ v y (short ts u v x l e fw.0) w, e)

    no_words : (n : ℕ) (ts : List T) (y : B) → length ts < suc b → (token p >>= g').words n ts y →
        (token p >>= g).words n ts y
    no_words n ts y l (u, v, x, fw, w, e) = (u, v, x, fw, (hg x).no_words _ v y (short ts u v x l e fw.0) w, e)

    marks : (n : ℕ) (ts : List T) → length ts < suc b → (token p >>= g).marks n ts → (token p >>= g').marks n ts
    marks n ts l (inl m) = absurd m
    marks n ts l (inr (u, v, x, fw, w, e)) = inr (u, v, x, fw, (hg x).marks _ v (short ts u v x l e fw.0) w, e)

    no_marks : (n : ℕ) (ts : List T) → length ts < suc b → (token p >>= g').marks n ts → (token p >>= g).marks n ts
    no_marks n ts l (inl m) = absurd m
    no_marks n ts l (inr (u, v, x, fw, w, e)) = inr (u, v, x, fw, (hg x).no_marks _ v (short ts u v x l e fw.0) w, e)

    read : (n : ℕ) (ts : List T) → length ts < suc b → (token p >>= g).read n ts ≡ (token p >>= g').read n ts
    read n [] l = refl
    read n (t ∷ ts) l = go (p t)
      where
        go : (d : Bool) → after (cond d (done t (n + 1) ts) (stuck (t ∷ ts))) g ≡ after
            (cond d (done t (n + 1) ts) (stuck (t ∷ ts))) g'
        go true = (hg t).read (n + 1) ts (omega arith)
        go false = refl

pub counted_alike : {T B : Type 0} (b : ℕ) (p : T → Bool) (left : ℕ) (g g' : ℕ → Form T B) →
    ((x : ℕ) → Alike b (g x) (g' x)) → Alike (suc b) (counted p left >>= g) (counted p left >>= g')
counted_alike {T} {B} b p left g g' hg = record {
  words = words;
  no_words = no_words;
  marks = marks;
  no_marks =
      no_marks;
  read = read left;
}
  where
    short : (ts u v : List T) (x : T) → length ts < suc b → ts ≡ u ++ v → u ≡ x ∷ [] → length v < b
    short ts u v x l e eu = let e2 : length ts ≡ suc (length v) = ap length (e ∙ ap (λ z. z ++ v) eu) in omega arith

    words : (n : ℕ) (ts : List T) (y : B) → length ts < suc b → (counted p left >>= g).words n ts y →
        (counted p left >>= g').words n ts y
    words n ts y l (u, v, x, fw, w, e) = (u, v, x, fw, (hg x).words _ v y (short ts u v fw.0 l e fw.1) w, e)

    no_words : (n : ℕ) (ts : List T) (y : B) → length ts < suc b → (counted p left >>= g').words n ts y →
        (counted p left >>= g).words n ts y
    no_words n ts y l (u, v, x, fw, w, e) = (u, v, x, fw, (hg x).no_words _ v y (short ts u v fw.0 l e fw.1) w, e)

    marks : (n : ℕ) (ts : List T) → length ts < suc b → (counted p left >>= g).marks n ts →
        (counted p left >>= g').marks n ts
    marks n ts l (inl m) = inl m
    marks n ts l (inr (u, v, x, fw, w, e)) = inr (u, v, x, fw, (hg x).marks _ v (short ts u v fw.0 l e fw.1) w, e)

    no_marks : (n : ℕ) (ts : List T) → length ts < suc b → (counted p left >>= g').marks n ts →
        (counted p left >>= g).marks n ts
    no_marks n ts l (inl m) = inl m
    no_marks n ts l (inr (u, v, x, fw, w, e)) = inr (u, v, x, fw, (hg x).no_marks _ v (short ts u v fw.0 l e fw.1) w, e)

    read : (left n : ℕ) (ts : List T) → length ts < suc b →
        after (read_counted p left n ts) g ≡ after (read_counted p left n ts) g'
    read left n [] l = refl
    read zero n (t ∷ ts) l = go (p t)
      where
        go : (d : Bool) → after (cond d (over (t ∷ ts)) (stuck (t ∷ ts))) g ≡ after
            (cond d (over (t ∷ ts)) (stuck (t ∷ ts))) g'
        go true = refl
        go false = refl
    read (suc left) n (t ∷ ts) l = go (p t)
      where
        go : (d : Bool) → after (cond d (done left (n + 1) ts) (stuck (t ∷ ts))) g ≡ after
            (cond d (done left (n + 1) ts) (stuck (t ∷ ts))) g'
        go true = (hg left).read (n + 1) ts (omega arith)
        go false = refl

pub either_alike : {T V : Type 0} (b : ℕ) (f f' g g' : Form T V) → ((t : T) → f.first t ≡ f'.first t) → Alike b f f' →
    Alike b g g' → Alike b (either f g) (either f' g')
either_alike {T} {V} b f f' g g' ef hf hg = record {
  words = words;
  no_words = no_words;
  marks = marks;
  no_marks =
      no_marks;
  read = read;
}
  where
    words : (n : ℕ) (ts : List T) (v : V) → length ts < b → (either f g).words n ts v → (either f' g').words n ts v
    words n ts v l (inl w) = inl (hf.words n ts v l w)
    words n ts v l (inr w) = inr (hg.words n ts v l w)

    no_words : (n : ℕ) (ts : List T) (v : V) → length ts < b → (either f' g').words n ts v → (either f g).words n ts v
    no_words n ts v l (inl w) = inl (hf.no_words n ts v l w)
    no_words n ts v l (inr w) = inr (hg.no_words n ts v l w)

    marks : (n : ℕ) (ts : List T) → length ts < b → (either f g).marks n ts → (either f' g').marks n ts
    marks n ts l (inl w) = inl (hf.marks n ts l w)
    marks n ts l (inr w) = inr (hg.marks n ts l w)

    no_marks : (n : ℕ) (ts : List T) → length ts < b → (either f' g').marks n ts → (either f g).marks n ts
    no_marks n ts l (inl w) = inl (hf.no_marks n ts l w)
    no_marks n ts l (inr w) = inr (hg.no_marks n ts l w)

    begin : (ts : List T) → begins_with f.first ts ≡ begins_with f'.first ts
    begin [] = refl
    begin (t ∷ ts) = ef t

    read : (n : ℕ) (ts : List T) → length ts < b → (either f g).read n ts ≡ (either f' g').read n ts
    read n ts l = ap (λ d. cond d (f.read n ts) (g.read n ts)) (begin ts) ∙ ap
        (λ a. cond (begins_with f'.first ts) a (g.read n ts)) (hf.read n ts l) ∙ ap
        (λ a. cond (begins_with f'.first ts) (f'.read n ts) a) (hg.read n ts l)

-- ---- turns

module _ {T S : Type 0} (b : ℕ) (p : S → T → Bool) (f f' : S → Form T S) (h : (s : S) → Alike b (f s) (f' s)) where
  loop_words_in : (i : ℕ) (s : S) (n : ℕ) (ts : List T) (y : S) → length ts < b → loop_words f i s n ts y →
      loop_words f' i s n ts y
  loop_words_in zero s n ts y l w = w
  loop_words_in (suc i) s n ts y l (u, v, x, fw, w, e) = (
    u,
    v,
    x,
    (h s).words n u x (left_short b ts u v l e) fw,
    loop_words_in i x _ v y (right_short b ts u v l e) w,
    e,
  )

  loop_words_out : (i : ℕ) (s : S) (n : ℕ) (ts : List T) (y : S) → length ts < b → loop_words f' i s n ts y →
      loop_words f i s n ts y
  loop_words_out zero s n ts y l w = w
  loop_words_out (suc i) s n ts y l (u, v, x, fw, w, e) = (
    u,
    v,
    x,
    (h s).no_words n u x (left_short b ts u v l e) fw,
    loop_words_out i x _ v y (right_short b ts u v l e) w,
    e,
  )

  pub turns_alike : ((s : S) → Shrinks (f s)) → (i : ℕ) (s : S) (n : ℕ) (ts : List T) → length ts < b →
      turns p f i s n ts ≡ turns p f' i s n ts
  unfolding turns
  turns_alike shrinks zero s n ts l = refl
  turns_alike shrinks (suc i) s n ts l =
      ap (λ z. cond (begins_with (p s) ts) z (done s n ts))
      (next_same ((f s).read n ts) (λ x m r e. turns_alike shrinks i x m r (omega (arith, shrinks s n ts x m r e))) ∙
      ap (λ a. next_turn a (turns p f' i)) ((h s).read n ts l))
    where
      next_same : (a : Answer T S) →
          ((x : S) (m : ℕ) (r : List T) → a ≡ done x m r → turns p f i x m r ≡ turns p f' i x m r) →
          next_turn a (turns p f i) ≡ next_turn a (turns p f' i)
      next_same (done x m r) e = e x m r refl
      next_same (refused why r) e = refl

  pub loop_alike : ((s : S) → Shrinks (f s)) → (s : S) → Alike b (loop p f s) (loop p f' s)
  loop_alike shrinks s = record {
    words = λ n ts y l w. (w.0, loop_words_in w.0 s n ts y l w.1);
    no_words =
        λ n ts y l w. (w.0, loop_words_out w.0 s n ts y l w.1);
    marks = marks;
    no_marks = no_marks;
    read = λ n ts l.
        turns_alike shrinks (length ts) s n ts l;
  }
    where
      marks : (n : ℕ) (ts : List T) → length ts < b → (loop p f s).marks n ts → (loop p f' s).marks n ts
      marks n ts l (i, u, v, x, w, m, e) = (
        i,
        u,
        v,
        x,
        loop_words_in i s n u x (left_short b ts u v l e) w,
        (h x).marks _ v (right_short b ts u v l e) m,
        e,
      )

      no_marks : (n : ℕ) (ts : List T) → length ts < b → (loop p f' s).marks n ts → (loop p f s).marks n ts
      no_marks n ts l (i, u, v, x, w, m, e) = (
        i,
        u,
        v,
        x,
        loop_words_out i s n u x (left_short b ts u v l e) w,
        (h x).no_marks _ v (right_short b ts u v l e) m,
        e,
      )

-- ---- a form that stands in itself

abbrev pub Lessens : {T S V : Type 0} → ((S → Form T V) → S → Form T V) → Type 1
Lessens {T} {S} {V} body = (F : S → Form T V) → ((s : S) → Shrinks (F s)) → (s : S) → Shrinks (body F s)

abbrev pub Grows : {T S V : Type 0} → ((S → Form T V) → S → Form T V) → Type 1
Grows {T} {S} {V} body = (b : ℕ) (F G : S → Form T V) → ((s : S) → Shrinks (F s)) → ((s : S) → Alike b (F s) (G s)) →
    (s : S) → Alike (suc b) (body F s) (body G s)

module _ {T S V : Type 0} (p : T → Bool) (body : (S → Form T V) → S → Form T V) (grows : Grows body)
    (lessens : Lessens body) where
  level_shrinks : (d : ℕ) (s : S) → Shrinks (level body d s)
  unfolding level
  level_shrinks zero s n ts v m r e = absurd cc
  level_shrinks (suc d) s n ts v m r e = lessens (level body d) (λ x. level_shrinks d x) s n ts v m r e

  pub nested_shrinks : (s : S) → Shrinks (nested p body s)
  unfolding nested
  nested_shrinks s n ts v m r e = level_shrinks (suc (length ts)) s n ts v m r e

  pub levels_alike : (b c d : ℕ) → b ≤ c → b ≤ d → (s : S) → Alike b (level body c s) (level body d s)
  unfolding level
  levels_alike zero c d lc ld s = record {
    words = λ n ts v l. absurd (omega arith);
    no_words = λ n ts v l. absurd
        (omega arith);
    marks = λ n ts l. absurd (omega arith);
    no_marks = λ n ts l. absurd (omega arith);
    read =
        λ n ts l. absurd (omega arith);
  }
  levels_alike (suc b) zero d lc ld s = absurd (omega arith)
  levels_alike (suc b) (suc c) zero lc ld s = absurd (omega arith)
  levels_alike (suc b) (suc c) (suc d) lc ld s = grows b (level body c) (level body d) (λ x. level_shrinks c x)
      (λ x. levels_alike b c d (omega arith) (omega arith) x) s

  -- a level that is deep enough is the form itself
  pub level_nested : (d : ℕ) (s : S) → Alike d (level body d s) (nested p body s)
  unfolding nested
  level_nested d s = record {
    words = λ n ts v l w. (levels_alike (suc (length ts)) d (suc (length ts)) (omega arith) (omega arith) s).words n
        ts v (omega arith) w;
    no_words = λ n ts v l w. (levels_alike (suc (length ts)) d (suc (length ts)) (omega arith) (omega arith)
        s).no_words n ts v (omega arith) w;
    marks = λ n ts l w. (levels_alike (suc (length ts)) d (suc (length ts)) (omega arith) (omega arith) s).marks n ts
        (omega arith) w;
    no_marks = λ n ts l w. (levels_alike (suc (length ts)) d (suc (length ts)) (omega arith) (omega arith) s).no_marks
        n ts (omega arith) w;
    read = λ n ts l. (levels_alike (suc (length ts)) d (suc (length ts)) (omega arith) (omega arith) s).read n ts
        (omega arith);
  }

  -- the form is its body round itself
  pub unroll : (s : S) → Same (body (nested p body) s) (nested p body s)
  unfolding level nested
  unroll s = record {
    words = λ n ts v w. (at (length ts)).no_words n ts v (omega arith) w;
    no_words = λ n ts v w. (at (length ts)).words n ts v (omega arith) w;
    marks = λ n ts w. (at (length ts)).no_marks n ts (omega arith) w;
    no_marks = λ n ts w. (at (length ts)).marks n ts (omega arith) w;
    read = λ n ts. sym ((at (length ts)).read n ts (omega arith));
  }
    where
      at : (d : ℕ) → Alike (suc d) (body (level body d) s) (body (nested p body) s)
      at d = grows d (level body d) (nested p body) (λ x. level_shrinks d x) (λ x. level_nested d x) s

  module _ (q : T → Bool) (word : (s : S) (n : ℕ) → (w : List T) × (v : V) × (nested p body s).words n w v)
      (begins : (s : S) → Begins p (nested p body s))
      (body_eats : (m : ℕ) → ((s : S) → Exact m q (nested p body s)) → (s : S) → Eats m q (body (nested p body) s))
    where
      nested_solid : {R : Type 0} (k : V → Form T R) (s : S) (n : ℕ) → (nested p body s >>= k).marks n [] → ⊥
      nested_solid k s n m = (begins_bind p (nested p body s) k (begins s)).marks n [] m

      nested_has : {R : Type 0} (k : V → Form T R) → ((v : V) (n : ℕ) → (w : List T) × (r : R) × (k v).words n w r) →
          (s : S) (n : ℕ) → (w : List T) × (r : R) × (nested p body s >>= k).words n w r
      nested_has k h s n =
          let a = word s n in
          let c = h a.1 (n + length a.0) in
          (a.0 ++ c.0, c.1, (a.0, c.0, a.1, a.2, c.2, refl))

      same_bind : {R : Type 0} (k : V → Form T R) (s : S) → Same (body (nested p body) s >>= k) (nested p body s >>= k)
      same_bind {R} k s = record {
        words = words;
        no_words = no_words;
        marks = marks;
        no_marks = no_marks;
        read =
            λ n ts. ap (λ a. after a k) ((unroll s).read n ts);
      }
        where
          words : (n : ℕ) (ts : List T) (y : R) → (body (nested p body) s >>= k).words n ts y →
              (nested p body s >>= k).words n ts y
          words n ts y (u, v, x, fw, w, e) = (u, v, x, (unroll s).words n u x fw, w, e)

          no_words : (n : ℕ) (ts : List T) (y : R) → (nested p body s >>= k).words n ts y →
              (body (nested p body) s >>= k).words n ts y
          no_words n ts y (u, v, x, fw, w, e) = (u, v, x, (unroll s).no_words n u x fw, w, e)

          marks : (n : ℕ) (ts : List T) → (body (nested p body) s >>= k).marks n ts → (nested p body s >>= k).marks n ts
          marks n ts (inl m) = inl ((unroll s).marks n ts m)
          marks n ts (inr (u, v, x, fw, w, e)) = inr (u, v, x, (unroll s).words n u x fw, w, e)

          no_marks : (n : ℕ) (ts : List T) → (nested p body s >>= k).marks n ts →
              (body (nested p body) s >>= k).marks n ts
          no_marks n ts (inl m) = inl ((unroll s).no_marks n ts m)
          no_marks n ts (inr (u, v, x, fw, w, e)) = inr (u, v, x, (unroll s).no_words n u x fw, w, e)

      -- to read up to a bound, it is enough to read the parts in it up to a lesser one
      pub nested_exact : (m : ℕ) (s : S) → Exact m q (nested p body s)
      nested_exact zero s R k b lm h c = record {
        has = nested_has k (λ v n. (h v).has n) s;
        solid = nested_solid k s;
        reads = λ n ts lt. absurd (omega arith);
      }
      nested_exact (suc m) s R k zero lm h c = record {
        has = nested_has k (λ v n. (h v).has n) s;
        solid = nested_solid
            k s;
        reads = λ n ts lt. absurd (omega arith);
      }
      nested_exact (suc m) s R k (suc b) lm h c =
          good_same (suc b) (body (nested p body) s >>= k) (nested p body s >>= k) (same_bind k s)
          (body_eats m (λ x. nested_exact m x) s R k b (omega arith) (λ v. weaker b (k v) (h v)) c)

      pub nested_eats : (m : ℕ) (s : S) → Eats m q (nested p body s)
      nested_eats m s R k b lm h c =
          good_same (suc b) (body (nested p body) s >>= k) (nested p body s >>= k) (same_bind k s)
          (body_eats m (λ x. nested_exact m x) s R k b lm h c)

-- ---- counted tokens

pub begins_counted : {T : Type 0} (p : T → Bool) (left : ℕ) → Begins p (counted p left)
begins_counted p left = record {
  words = λ n ts v w. subst (λ z. Starts p z) (sym w.1) w.2;
  marks = λ n ts m. subst (λ z. Starts p z) (sym m.2) m.3;
}

pub counted_shrinks : {T : Type 0} (p : T → Bool) (left : ℕ) → Shrinks (counted p left)
counted_shrinks p left n [] v m r e = absurd cc
counted_shrinks p zero n (t ∷ ts) v m r e = go (p t) e
  where
    go : (d : Bool) → cond d (over (t ∷ ts)) (stuck (t ∷ ts)) ≡ done v m r → length r < length (t ∷ ts)
    go true e2 = absurd cc
    go false e2 = absurd cc
counted_shrinks p (suc left) n (t ∷ ts) v m r e = go (p t) e
  where
    go : (d : Bool) → cond d (done left (n + 1) ts) (stuck (t ∷ ts)) ≡ done v m r → length r < length (t ∷ ts)
    go true e2 = let e3 : r ≡ ts = cc in rw e3 (omega arith)
    go false e2 = absurd cc

module _ {T R : Type 0} (p : T → Bool) (left : ℕ) (k : ℕ → Form T R) (n : ℕ) (t : T) (ts : List T) where
  counted_in : (y : R) → p t ≡ true → (k (left - 1)).words (n + 1) ts y → (counted p left >>= k).words n (t ∷ ts) y
  counted_in y pt w = (t ∷ [], ts, left - 1, (t, refl, pt, refl), w, refl)

  counted_out : (y : R) → (counted p left >>= k).words n (t ∷ ts) y → (p t ≡ true) × (k (left - 1)).words (n + 1) ts y
  counted_out y (u, v, x, (s, eu, px, ex), w, e) =
      let s2 : t ∷ ts ≡ s ∷ v = e ∙ ap (λ z. z ++ v) eu in
      let w2 : (k x).words (n + 1) v y = subst (λ z. (k x).words (n + length z) v y) eu w in
      let w3 : (k (left - 1)).words (n + 1) v y = subst (λ z. (k z).words (n + 1) v y) ex w2 in (
        subst (λ z. p z ≡ true) (sym (head_is t s ts v s2)) px,
        subst (λ z. (k (left - 1)).words (n + 1) z y)
            (sym (tail_is t s ts v s2)) w3,
      )

  counted_mark_in : p t ≡ true → (k (left - 1)).marks (n + 1) ts → (counted p left >>= k).marks n (t ∷ ts)
  counted_mark_in pt w = inr (t ∷ [], ts, left - 1, (t, refl, pt, refl), w, refl)

  counted_mark_out : (counted p left >>= k).marks n (t ∷ ts) →
      (left ≡ 0) ⊎ ((p t ≡ true) × (k (left - 1)).marks (n + 1) ts)
  counted_mark_out (inl m) = inl m.0
  counted_mark_out (inr (u, v, x, (s, eu, px, ex), w, e)) =
      let s2 : t ∷ ts ≡ s ∷ v = e ∙ ap (λ z. z ++ v) eu in
      let w2 : (k x).marks (n + 1) v = subst (λ z. (k x).marks (n + length z) v) eu w in
      let w3 : (k (left - 1)).marks (n + 1) v = subst (λ z. (k z).marks (n + 1) v) ex w2 in
      inr (
        subst (λ z. p z ≡ true) (sym (head_is t s ts v s2)) px,
        subst (λ z. (k (left - 1)).marks (n + 1) z)
            (sym (tail_is t s ts v s2)) w3,
      )

pub counted_eats : {T : Type 0} (m : ℕ) (p : T → Bool) (left : ℕ) (w : T) → p w ≡ true → Eats m no (counted p left)
counted_eats {T} m p left w pw R k b lm h c = record { has = has; solid = solid; reads = reads left refl }
  where
    has : (n : ℕ) → (u : List T) × (v : R) × (counted p left >>= k).words n u v
    has n = let r = (h (left - 1)).has (n + 1) in (w ∷ r.0, r.1, counted_in p left k n w r.0 r.1 pw r.2)

    solid : (n : ℕ) → (counted p left >>= k).marks n [] → ⊥
    solid n m = (begins_bind p (counted p left) k (begins_counted p left)).marks n [] m

    not_nil : (n : ℕ) (y : R) → (counted p left >>= k).words n [] y → ⊥
    not_nil n y w = (begins_bind p (counted p left) k (begins_counted p left)).words n [] y w

    refuse : (n : ℕ) (t : T) (ts : List T) → p t ≡ false →
        Gives ((counted p left >>= k).words n) ((counted p left >>= k).marks n) (t ∷ ts) (stuck (t ∷ ts))
    refuse n t ts e = record {
      front = [];
      split = refl;
      possible = has n;
      impossible = λ q. let e2 : p t ≡ true = (counted_out p left k n t q.0 q.1 q.2).0 in cc;
      unmarked = unmarked_none _ (solid n);
    }

    exceed : left ≡ 0 → (n : ℕ) (t : T) (ts : List T) → p t ≡ true →
        Gives ((counted p left >>= k).words n) ((counted p left >>= k).marks n) (t ∷ ts) (over (t ∷ ts))
    exceed z n t ts e =
        let r = (h (left - 1)).has (n + 1) in
        record {
          front = [];
          token = t;
          after = ts;
          split = refl;
          here = refl;
          possible = (r.0, r.1, counted_in p left k n t r.0 r.1 e r.2);
          marked = inl (z, t, refl, e);
          unmarked = unmarked_none _ (solid n);
        }

    accept : (l : ℕ) → left ≡ suc l → (n : ℕ) (t : T) (ts : List T) → length (t ∷ ts) < suc b → p t ≡ true →
        Gives ((counted p left >>= k).words n) ((counted p left >>= k).marks n) (t ∷ ts) ((k l).read (n + 1) ts)
    accept l z n t ts lt e =
        let ll : left - 1 ≡ l = omega arith in
        let inner = (h (left - 1)).reads (n + 1) ts (omega arith) in
        subst (λ j. Gives ((counted p left >>= k).words n) ((counted p left >>= k).marks n) (t ∷ ts)
        ((k j).read (n + 1) ts)) ll
        (step ((counted p left >>= k).words n) ((counted p left >>= k).marks n) t ts ((k (left - 1)).read (n + 1) ts)
        (solid n)
        (widen ((k (left - 1)).words (n + 1)) (λ x v. (counted p left >>= k).words n (t ∷ x) v)
        ((k (left - 1)).marks (n + 1)) (λ x. (counted p left >>= k).marks n (t ∷ x)) ts
        ((k (left - 1)).read (n + 1) ts)
        (record {
          words = λ x v q. counted_in p left k n t x v e q;
          marks = λ x q. counted_mark_in p left k n t x e q;
          no_words = λ x v _ q. (counted_out p left k n t x v q).1;
          no_marks = λ x _ q. more x q;
          solid = λ q. (h (left - 1)).solid (n + 1) (more [] q);
        }) inner))
      where
        more : (x : List T) → (counted p left >>= k).marks n (t ∷ x) → (k (left - 1)).marks (n + 1) x
        more x q = elim (counted_mark_out p left k n t x q) [
          | inl y ↦ absurd (omega arith)
          | inr y ↦ y.1
        ]

    reads : (l : ℕ) → left ≡ l → (n : ℕ) (ts : List T) → length ts < suc b →
        Gives ((counted p left >>= k).words n) ((counted p left >>= k).marks n) ts (after (read_counted p l n ts) k)
    reads l z n [] lt = record {
      front = [];
      split = refl;
      possible = has n;
      impossible = λ v q. not_nil n v q;
      unmarked = unmarked_none _ (solid n);
    }
    reads zero z n (t ∷ ts) lt = go (p t) refl
      where
        go : (d : Bool) → p t ≡ d →
            Gives ((counted p left >>= k).words n) ((counted p left >>= k).marks n) (t ∷ ts)
            (after (cond d (over (t ∷ ts)) (stuck (t ∷ ts))) k)
        go true e = exceed z n t ts e
        go false e = refuse n t ts e
    reads (suc l) z n (t ∷ ts) lt = go (p t) refl
      where
        go : (d : Bool) → p t ≡ d →
            Gives ((counted p left >>= k).words n) ((counted p left >>= k).marks n) (t ∷ ts)
            (after (cond d (done l (n + 1) ts) (stuck (t ∷ ts))) k)
        go true e = accept l z n t ts lt e
        go false e = refuse n t ts e
