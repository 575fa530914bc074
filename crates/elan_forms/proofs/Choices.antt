-- The one form or the other is read exactly, where the first token tells them apart.
use Rattle.std.proofs.Common.{◌≡◌, ℕ, suc, ◌<◌, Bool, true, false, cond, ◌||◌, List, [], ◌∷◌, length, ◌⊎◌, inl, inr, refl, sym, subst}
use Rattle.elan_forms.specs.Whole.{Answer, Gives}
use Rattle.elan_forms.specs.Form.{Form, ◌>>=◌, after, either, begins_with}
use Rattle.elan_forms.proofs.Steps.{widen, SameStart}
use Rattle.elan_forms.proofs.Exact.{Good, Clear, Exact, Eats, Starts, Begins, Follows, begins_bind, or_left, or_right}

module _ {T V R : Type 0} (f g : Form T V) (k : V → Form T R) (n : ℕ) where
  pub left_in : (ts : List T) (y : R) → (f >>= k).words n ts y → (either f g >>= k).words n ts y
  left_in ts y (u, v, x, fw, w, s) = (u, v, x, inl fw, w, s)

  pub right_in : (ts : List T) (y : R) → (g >>= k).words n ts y → (either f g >>= k).words n ts y
  right_in ts y (u, v, x, fw, w, s) = (u, v, x, inr fw, w, s)

  pub either_out : (ts : List T) (y : R) → (either f g >>= k).words n ts y →
      (f >>= k).words n ts y ⊎ (g >>= k).words n ts y
  either_out ts y (u, v, x, inl fw, w, s) = inl (u, v, x, fw, w, s)
  either_out ts y (u, v, x, inr fw, w, s) = inr (u, v, x, fw, w, s)

  left_mark : (ts : List T) → (f >>= k).marks n ts → (either f g >>= k).marks n ts
  left_mark ts (inl m) = inl (inl m)
  left_mark ts (inr (u, v, x, fw, w, s)) = inr (u, v, x, inl fw, w, s)

  right_mark : (ts : List T) → (g >>= k).marks n ts → (either f g >>= k).marks n ts
  right_mark ts (inl m) = inl (inr m)
  right_mark ts (inr (u, v, x, fw, w, s)) = inr (u, v, x, inr fw, w, s)

  mark_out : (ts : List T) → (either f g >>= k).marks n ts → (f >>= k).marks n ts ⊎ (g >>= k).marks n ts
  mark_out ts (inl (inl m)) = inl (inl m)
  mark_out ts (inl (inr m)) = inr (inl m)
  mark_out ts (inr (u, v, x, inl fw, w, s)) = inl (inr (u, v, x, fw, w, s))
  mark_out ts (inr (u, v, x, inr fw, w, s)) = inr (inr (u, v, x, fw, w, s))

-- A text whose first token does not begin f is a text of g, and the other way round.
module _ {T V R : Type 0} (f g : Form T V) (k : V → Form T R) (n : ℕ) (begins : Begins f.first f) where
  not_left : (ts x : List T) → begins_with f.first ts ≡ false → SameStart ts x → Starts f.first x → ⊥
  not_left [] [] e s h = h
  not_left [] (y ∷ x) e s h = s
  not_left (t ∷ ts) [] e s h = s
  not_left (t ∷ ts) (y ∷ x) e s h = let a : f.first t ≡ true = subst (λ z. f.first z ≡ true) (sym s) h in cc

  when_right : (ts : List T) (a : Answer T R) → begins_with f.first ts ≡ false → ((g >>= k).marks n [] → ⊥) →
      Gives ((g >>= k).words n) ((g >>= k).marks n) ts a → Gives ((either f g >>= k).words n)
      ((either f g >>= k).marks n) ts a
  when_right ts a e solid = widen ((g >>= k).words n) ((either f g >>= k).words n) ((g >>= k).marks n)
      ((either f g >>= k).marks n) ts a
      (record {
        words = λ x v q. right_in f g k n x v q;
        marks = λ x q. right_mark f g k n x q;
        no_words = out;
        no_marks = mark;
        solid = none;
      })
    where
      out : (x : List T) (v : R) → SameStart ts x → (either f g >>= k).words n x v → (g >>= k).words n x v
      out x v s q = elim (either_out f g k n x v q) [
        | inl l ↦ absurd (not_left ts x e s ((begins_bind f.first f k begins).words n x v l))
        | inr r ↦ r
      ]

      mark : (x : List T) → SameStart ts x → (either f g >>= k).marks n x → (g >>= k).marks n x
      mark x s q = elim (mark_out f g k n x q) [
        | inl l ↦ absurd (not_left ts x e s ((begins_bind f.first f k begins).marks n x l))
        | inr r ↦ r
      ]

      none : (either f g >>= k).marks n [] → ⊥
      none q = elim (mark_out f g k n [] q) [
        | inl l ↦ absurd ((begins_bind f.first f k begins).marks n [] l)
        | inr r ↦ solid r
      ]

  when_left : (t : T) (ts : List T) (a : Answer T R) → f.first t ≡ true → Clear f.first (g >>= k) →
      ((g >>= k).marks n [] → ⊥) →
      Gives ((f >>= k).words n) ((f >>= k).marks n) (t ∷ ts) a → Gives ((either f g >>= k).words n)
      ((either f g >>= k).marks n) (t ∷ ts) a
  when_left t ts a e clear solid = widen ((f >>= k).words n) ((either f g >>= k).words n) ((f >>= k).marks n)
      ((either f g >>= k).marks n) (t ∷ ts) a
      (record {
        words = λ x v q. left_in f g k n x v q;
        marks = λ x q. left_mark f g k n x q;
        no_words = out;
        no_marks = mark;
        solid = none;
      })
    where
      not_right : (x : List T) (v : R) → SameStart (t ∷ ts) x → (g >>= k).words n x v → ⊥
      not_right [] v s w = s
      not_right (y ∷ x) v s w = (clear n y x (subst (λ z. f.first z ≡ true) s e)).0 v w

      not_right_mark : (x : List T) → SameStart (t ∷ ts) x → (g >>= k).marks n x → ⊥
      not_right_mark [] s w = s
      not_right_mark (y ∷ x) s w = (clear n y x (subst (λ z. f.first z ≡ true) s e)).1 w

      out : (x : List T) (v : R) → SameStart (t ∷ ts) x → (either f g >>= k).words n x v → (f >>= k).words n x v
      out x v s q = elim (either_out f g k n x v q) [
        | inl l ↦ l
        | inr r ↦ absurd (not_right x v s r)
      ]

      mark : (x : List T) → SameStart (t ∷ ts) x → (either f g >>= k).marks n x → (f >>= k).marks n x
      mark x s q = elim (mark_out f g k n x q) [
        | inl l ↦ l
        | inr r ↦ absurd (not_right_mark x s r)
      ]

      none : (either f g >>= k).marks n [] → ⊥
      none q = elim (mark_out f g k n [] q) [
        | inl l ↦ (begins_bind f.first f k begins).marks n [] l
        | inr r ↦ solid r
      ]

pub either_good : {T V R : Type 0} (b : ℕ) (f g : Form T V) (k : V → Form T R) → Begins f.first f →
    Good b (f >>= k) → Good b (g >>= k) → Clear f.first (g >>= k) → Good b (either f g >>= k)
either_good {T} {V} {R} b f g k begins hf hg clear = record {
  has = λ n. let r = hf.has n in (r.0, r.1, left_in f g k n r.0 r.1 r.2);
  solid = solid;
  reads = reads;
}
  where
    solid : (n : ℕ) → (either f g >>= k).marks n [] → ⊥
    solid n q = elim (mark_out f g k n [] q) [
      | inl l ↦ hf.solid n l
      | inr r ↦ hg.solid n r
    ]

    go : (n : ℕ) (ts : List T) → length ts < b → (d : Bool) → begins_with f.first ts ≡ d →
        Gives ((either f g >>= k).words n) ((either f g >>= k).marks n) ts
        (after (cond d (f.read n ts) (g.read n ts)) k)
    go n ts lt false e = when_right f g k n begins ts (after (g.read n ts) k) e (hg.solid n) (hg.reads n ts lt)
    go n [] lt true e = absurd cc
    go n (t ∷ ts) lt true e = when_left f g k n begins t ts (after (f.read n (t ∷ ts)) k) e clear (hg.solid n)
        (hf.reads n (t ∷ ts) lt)

    reads : (n : ℕ) (ts : List T) → length ts < b →
        Gives ((either f g >>= k).words n) ((either f g >>= k).marks n) ts ((either f g >>= k).read n ts)
    reads n ts lt = go n ts lt (begins_with f.first ts) refl

pub either_exact : {T V : Type 0} (m : ℕ) (q : T → Bool) (f g : Form T V) → Begins f.first f →
    Exact m q f → Exact m q g → Follows f.first q g → Exact m q (either f g)
either_exact m q f g begins ef eg fol R k b lm h c = either_good b f g k begins (ef R k b lm h c) (eg R k b lm h c)
    (fol.follows R k c)

pub either_eats : {T V : Type 0} (m : ℕ) (q : T → Bool) (f g : Form T V) → Begins f.first f →
    Eats m q f → Eats m q g → Follows f.first q g → Eats m q (either f g)
either_eats m q f g begins ef eg fol R k b lm h c = either_good (suc b) f g k begins (ef R k b lm h c)
    (eg R k b lm h c) (fol.follows R k c)

pub begins_either : {T V : Type 0} (p q : T → Bool) (f g : Form T V) → Begins p f → Begins q g →
    Begins (λ t. p t || q t) (either f g)
begins_either {T} {V} p q f g bf bg = record { words = words; marks = marks }
  where
    left : (ts : List T) → Starts p ts → Starts (λ t. p t || q t) ts
    left [] h = h
    left (t ∷ ts) h = or_left (p t) (q t) h

    right : (ts : List T) → Starts q ts → Starts (λ t. p t || q t) ts
    right [] h = h
    right (t ∷ ts) h = or_right (p t) (q t) h

    words : (n : ℕ) (ts : List T) (v : V) → (either f g).words n ts v → Starts (λ t. p t || q t) ts
    words n ts v (inl w) = left ts (bf.words n ts v w)
    words n ts v (inr w) = right ts (bg.words n ts v w)

    marks : (n : ℕ) (ts : List T) → (either f g).marks n ts → Starts (λ t. p t || q t) ts
    marks n ts (inl w) = left ts (bf.marks n ts w)
    marks n ts (inr w) = right ts (bg.marks n ts w)
