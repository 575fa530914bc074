-- Forms whose reading is exact: before whatever goes on, they give the value, or the least token at which no text
-- goes on.
use Rattle.std.proofs.Common.{◌≡◌, ℕ, suc, ◌+◌, ◌<◌, ◌≤◌, Bool, true, false, cond, ◌||◌, List, [], ◌∷◌, ◌++◌, length, ◌⊎◌, inl, inr, refl, sym, ap, subst, ◌∙◌, append_assoc, arith, length-append, add-zero}
use Rattle.elan_forms.specs.Whole.{Answer, done, refused, stuck, Possible, Gives}
use Rattle.elan_forms.specs.Form.{Form, ◌>>=◌, after, token, read_token, silent}
use Rattle.elan_forms.proofs.Steps.{head_is, tail_is, cons_not_nil, unmarked_none, step, widen}

pub record Good {T R : Type 0} (bound : ℕ) (g : Form T R) : Type 0 where
  pub has : (n : ℕ) → (w : List T) × (v : R) × g.words n w v
  pub solid : (n : ℕ) → g.marks n [] → ⊥
  pub reads : (n : ℕ) (ts : List T) → length ts < bound → Gives (g.words n) (g.marks n) ts (g.read n ts)

-- nothing of the form begins with such a token
abbrev pub Clear : {T R : Type 0} → (T → Bool) → Form T R → Type 0
Clear {T} {R} q g = (n : ℕ) (t : T) (ts : List T) → q t ≡ true → ((v : R) → g.words n (t ∷ ts) v → ⊥) ×
    (g.marks n (t ∷ ts) → ⊥)

abbrev pub no : {T : Type 0} → T → Bool
no t = false

-- on texts shorter than a bound of at most `most`, whatever goes on after it, as long as that begins with no token of q
abbrev pub Exact : {T V : Type 0} → ℕ → (T → Bool) → Form T V → Type 1
Exact {T} {V} most q f = (R : Type 0) (k : V → Form T R) (b : ℕ) → b ≤ most → ((v : V) → Good b (k v)) →
    ((v : V) → Clear q (k v)) → Good b (f >>= k)

-- the same of a form that takes a token at least
abbrev pub Eats : {T V : Type 0} → ℕ → (T → Bool) → Form T V → Type 1
Eats {T} {V} most q f = (R : Type 0) (k : V → Form T R) (b : ℕ) → b ≤ most → ((v : V) → Good b (k v)) →
    ((v : V) → Clear q (k v)) → Good (suc b) (f >>= k)

abbrev pub Starts : {T : Type 0} → (T → Bool) → List T → Type 0
Starts q [] = ⊥
Starts q (t ∷ ts) = q t ≡ true

pub record Begins {T V : Type 0} (q : T → Bool) (f : Form T V) : Type 0 where
  pub words : (n : ℕ) (ts : List T) (v : V) → f.words n ts v → Starts q ts
  pub marks : (n : ℕ) (ts : List T) → f.marks n ts → Starts q ts

-- where what goes on begins with no token of p, the form and what goes on begin with none of q
pub record Follows {T V : Type 0} (q p : T → Bool) (f : Form T V) : Type 1 where
  pub follows : (R : Type 0) (k : V → Form T R) → ((v : V) → Clear p (k v)) → Clear q (f >>= k)

pub weaker : {T R : Type 0} (b : ℕ) (g : Form T R) → Good (suc b) g → Good b g
weaker b g h = record { has = h.has; solid = h.solid; reads = λ n ts lt. h.reads n ts (omega arith) }

pub eats_exact : {T V : Type 0} (m : ℕ) (q : T → Bool) (f : Form T V) → Eats m q f → Exact m q f
eats_exact m q f e R k b lm h c = weaker b (f >>= k) (e R k b lm h c)

-- ---- one token

module _ {T R : Type 0} (p : T → Bool) (k : T → Form T R) (n : ℕ) (t : T) (ts : List T) where
  token_in : (y : R) → p t ≡ true → (k t).words (n + 1) ts y → (token p >>= k).words n (t ∷ ts) y
  token_in y pt w = (t ∷ [], ts, t, (refl, pt), w, refl)

  pub token_out : (y : R) → (token p >>= k).words n (t ∷ ts) y → (p t ≡ true) × (k t).words (n + 1) ts y
  token_out y (u, v, x, (eu, px), w, s) =
      let s2 : t ∷ ts ≡ x ∷ v = s ∙ ap (λ z. z ++ v) eu in
      let w2 : (k x).words (n + 1) v y = subst (λ z. (k x).words (n + length z) v y) eu w in
      let w3 : (k t).words (n + 1) v y = subst (λ z. (k z).words (n + 1) v y) (sym (head_is t x ts v s2)) w2 in (
        subst (λ z. p z ≡ true) (sym (head_is t x ts v s2)) px,
        subst (λ z. (k t).words (n + 1) z y)
            (sym (tail_is t x ts v s2)) w3,
      )

  token_mark_in : p t ≡ true → (k t).marks (n + 1) ts → (token p >>= k).marks n (t ∷ ts)
  token_mark_in pt w = inr (t ∷ [], ts, t, (refl, pt), w, refl)

  token_mark_out : (token p >>= k).marks n (t ∷ ts) → (p t ≡ true) × (k t).marks (n + 1) ts
  token_mark_out (inl m) = absurd m
  token_mark_out (inr (u, v, x, (eu, px), w, s)) =
      let s2 : t ∷ ts ≡ x ∷ v = s ∙ ap (λ z. z ++ v) eu in
      let w2 : (k x).marks (n + 1) v = subst (λ z. (k x).marks (n + length z) v) eu w in
      let w3 : (k t).marks (n + 1) v = subst (λ z. (k z).marks (n + 1) v) (sym (head_is t x ts v s2)) w2 in (
        subst (λ z. p z ≡ true) (sym (head_is t x ts v s2)) px,
        subst (λ z. (k t).marks (n + 1) z)
            (sym (tail_is t x ts v s2)) w3,
      )

module _ {T R : Type 0} (p : T → Bool) (k : T → Form T R) where
  pub token_not_nil : (n : ℕ) (y : R) → (token p >>= k).words n [] y → ⊥
  token_not_nil n y (u, v, x, (eu, px), w, s) = cons_not_nil x v (sym (s ∙ ap (λ z. z ++ v) eu))

  token_solid : (n : ℕ) → (token p >>= k).marks n [] → ⊥
  token_solid n (inl m) = m
  token_solid n (inr (u, v, x, (eu, px), w, s)) = cons_not_nil x v (sym (s ∙ ap (λ z. z ++ v) eu))

pub token_eats : {T : Type 0} (m : ℕ) (p : T → Bool) (w : T) → p w ≡ true → Eats m no (token p)
token_eats {T} m p w pw R k b lm h c = record { has = has; solid = token_solid p k; reads = reads }
  where
    has : (n : ℕ) → (u : List T) × (v : R) × (token p >>= k).words n u v
    has n = let r = (h w).has (n + 1) in (w ∷ r.0, r.1, token_in p k n w r.0 r.1 pw r.2)

    possible : (n : ℕ) → Possible ((token p >>= k).words n) []
    possible n = let r = has n in (r.0, r.1, r.2)

    go : (n : ℕ) (t : T) (ts : List T) → length (t ∷ ts) < suc b → (d : Bool) → p t ≡ d →
        Gives ((token p >>= k).words n) ((token p >>= k).marks n) (t ∷ ts)
        (after (cond d (done t (n + 1) ts) (stuck (t ∷ ts))) k)
    go n t ts lt true e =
        let inner = (h t).reads (n + 1) ts (omega arith) in
        step ((token p >>= k).words n) ((token p >>= k).marks n) t ts ((k t).read (n + 1) ts) (token_solid p k n)
        (widen ((k t).words (n + 1)) (λ x v. (token p >>= k).words n (t ∷ x) v) ((k t).marks (n + 1))
        (λ x. (token p >>= k).marks n (t ∷ x)) ts ((k t).read (n + 1) ts)
        (record {
          words = λ x v q. token_in p k n t x v e q;
          marks = λ x q. token_mark_in p k n t x e q;
          no_words = λ x v _ q. (token_out p k n t x v q).1;
          no_marks = λ x _ q. (token_mark_out p k n t x q).1;
          solid = λ q. (h t).solid (n + 1) (token_mark_out p k n t [] q).1;
        }) inner)
    go n t ts lt false e = record {
      front = [];
      split = refl;
      possible = possible n;
      impossible = λ q. let e2 : p t ≡ true = (token_out p k n t q.0 q.1 q.2).0 in cc;
      unmarked = unmarked_none _ (token_solid p k n);
    }

    reads : (n : ℕ) (ts : List T) → length ts < suc b →
        Gives ((token p >>= k).words n) ((token p >>= k).marks n) ts (after (read_token p n ts) k)
    reads n [] lt = record {
      front = [];
      split = refl;
      possible = possible n;
      impossible = λ v q. token_not_nil p k n v q;
      unmarked = unmarked_none _ (token_solid p k n);
    }
    reads n (t ∷ ts) lt = go n t ts lt (p t) refl

-- ---- no token

module _ {T V R : Type 0} (value : ℕ → V) (k : V → Form T R) (n : ℕ) where
  pub silent_in : (ts : List T) (y : R) → (k (value n)).words n ts y → (silent value >>= k).words n ts y
  silent_in ts y w = ([], ts, value n, (refl, refl), subst (λ z. (k (value n)).words z ts y) (sym (add-zero n)) w, refl)

  pub silent_out : (ts : List T) (y : R) → (silent value >>= k).words n ts y → (k (value n)).words n ts y
  silent_out ts y (u, v, x, (eu, ex), w, s) =
      let w2 : (k x).words (n + 0) v y = subst (λ z. (k x).words (n + length z) v y) eu w in
      let w3 : (k x).words n v y = subst (λ z. (k x).words z v y) (add-zero n) w2 in
      let w4 : (k (value n)).words n v y = subst (λ z. (k z).words n v y) ex w3 in
      subst (λ z. (k (value n)).words n z y) (sym (s ∙ ap (λ z. z ++ v) eu)) w4

  silent_mark_in : (ts : List T) → (k (value n)).marks n ts → (silent value >>= k).marks n ts
  silent_mark_in ts w = inr (
    [],
    ts,
    value n,
    (refl, refl),
    subst (λ z. (k (value n)).marks z ts) (sym (add-zero n))
        w,
    refl,
  )

  pub silent_mark_out : (ts : List T) → (silent value >>= k).marks n ts → (k (value n)).marks n ts
  silent_mark_out ts (inl m) = absurd m
  silent_mark_out ts (inr (u, v, x, (eu, ex), w, s)) =
      let w2 : (k x).marks (n + 0) v = subst (λ z. (k x).marks (n + length z) v) eu w in
      let w3 : (k x).marks n v = subst (λ z. (k x).marks z v) (add-zero n) w2 in
      let w4 : (k (value n)).marks n v = subst (λ z. (k z).marks n v) ex w3 in
      subst (λ z. (k (value n)).marks n z) (sym (s ∙ ap (λ z. z ++ v) eu)) w4

pub silent_exact : {T V : Type 0} (m : ℕ) (value : ℕ → V) → Exact {T = T} m no (silent value)
silent_exact m value R k b lm h c = record {
  has = λ n. let r = (h (value n)).has n in (r.0, r.1, silent_in value k n r.0 r.1 r.2);
  solid = λ n m. (h (value n)).solid n (silent_mark_out value k n [] m);
  reads = λ n ts lt. widen ((k (value n)).words n) ((silent value >>= k).words n) ((k (value n)).marks n)
      ((silent value >>= k).marks n) ts ((k (value n)).read n ts)
      (record {
        words = λ x v q. silent_in value k n x v q;
        marks = λ x q. silent_mark_in value k n x q;
        no_words = λ x v _ q. silent_out value k n x v q;
        no_marks = λ x _ q. silent_mark_out value k n x q;
        solid = λ q. (h (value n)).solid n (silent_mark_out value k n [] q);
      }) ((h (value n)).reads n ts lt);
}

-- ---- one after the other

pub after_assoc : {T A B C : Type 0} (a : Answer T A) (g : A → Form T B) (k : B → Form T C) →
    after a (λ v. g v >>= k) ≡ after (after a g) k
after_assoc (done v n r) g k = refl
after_assoc (refused why r) g k = refl

pub plus_length : {T : Type 0} (n : ℕ) (u v : List T) → n + length (u ++ v) ≡ n + length u + length v
plus_length n u v = omega (arith, length-append u v)

module _ {T A B C : Type 0} (f : Form T A) (g : A → Form T B) (k : B → Form T C) (n : ℕ) where
  pub assoc_in : (ts : List T) (y : C) → (f >>= (λ v. g v >>= k)).words n ts y → (f >>= g >>= k).words n ts y
  assoc_in ts y (u, v, x, fw, (u2, v2, z, gw, kw, s2), s) = (
    u ++ u2,
    v2,
    z,
    (u, u2, x, fw, gw, refl),
    subst (λ m. (k z).words m v2 y) (sym (plus_length n u u2)) kw,
    s ∙ ap
        (λ m. u ++ m) s2 ∙ sym (append_assoc u u2 v2),
  )

  pub assoc_out : (ts : List T) (y : C) → (f >>= g >>= k).words n ts y → (f >>= (λ v. g v >>= k)).words n ts y
  assoc_out ts y (w, v2, z, (u, u2, x, fw, gw, s2), kw, s) =
      let kw2 : (k z).words (n + length (u ++ u2)) v2 y = subst (λ m. (k z).words (n + length m) v2 y) s2 kw in (
        u,
        u2 ++ v2,
        x,
        fw,
        (u2, v2, z, gw, subst (λ m. (k z).words m v2 y) (plus_length n u u2) kw2, refl),
        s ∙ ap
            (λ m. m ++ v2) s2 ∙ append_assoc u u2 v2,
      )

  assoc_mark_in : (ts : List T) → (f >>= (λ v. g v >>= k)).marks n ts → (f >>= g >>= k).marks n ts
  assoc_mark_in ts (inl m) = inl (inl m)
  assoc_mark_in ts (inr (u, v, x, fw, inl m, s)) = inl (inr (u, v, x, fw, m, s))
  assoc_mark_in ts (inr (u, v, x, fw, inr (u2, v2, z, gw, kw, s2), s)) =
      inr (
        u ++ u2,
        v2,
        z,
        (u, u2, x, fw, gw, refl),
        subst (λ m. (k z).marks m v2) (sym (plus_length n u u2)) kw,
        s ∙
            ap (λ m. u ++ m) s2 ∙ sym (append_assoc u u2 v2),
      )

  assoc_mark_out : (ts : List T) → (f >>= g >>= k).marks n ts → (f >>= (λ v. g v >>= k)).marks n ts
  assoc_mark_out ts (inl (inl m)) = inl m
  assoc_mark_out ts (inl (inr (u, v, x, fw, m, s))) = inr (u, v, x, fw, inl m, s)
  assoc_mark_out ts (inr (w, v2, z, (u, u2, x, fw, gw, s2), kw, s)) =
      let kw2 : (k z).marks (n + length (u ++ u2)) v2 = subst (λ m. (k z).marks (n + length m) v2) s2 kw in
      inr (
        u,
        u2 ++ v2,
        x,
        fw,
        inr (u2, v2, z, gw, subst (λ m. (k z).marks m v2) (plus_length n u u2) kw2, refl),
        s ∙
            ap (λ m. m ++ v2) s2 ∙ append_assoc u u2 v2,
      )

-- the same language, read with the same answers
pub record Same {T R : Type 0} (g h : Form T R) : Type 0 where
  pub words : (n : ℕ) (ts : List T) (v : R) → g.words n ts v → h.words n ts v
  pub no_words : (n : ℕ) (ts : List T) (v : R) → h.words n ts v → g.words n ts v
  pub marks : (n : ℕ) (ts : List T) → g.marks n ts → h.marks n ts
  pub no_marks : (n : ℕ) (ts : List T) → h.marks n ts → g.marks n ts
  pub read : (n : ℕ) (ts : List T) → g.read n ts ≡ h.read n ts

pub good_same : {T R : Type 0} (b : ℕ) (g h : Form T R) → Same g h → Good b g → Good b h
good_same b g h s x = record {
  has = λ n. let r = x.has n in (r.0, r.1, s.words n r.0 r.1 r.2);
  solid = λ n m. x.solid n (s.no_marks n [] m);
  reads = λ n ts lt. subst (λ a. Gives (h.words n) (h.marks n) ts a) (s.read n ts)
      (widen (g.words n) (h.words n) (g.marks n) (h.marks n) ts (g.read n ts)
      (record {
        words = s.words n;
        marks = s.marks n;
        no_words = λ y v _ q. s.no_words n y v q;
        no_marks = λ y _ q.
            s.no_marks n y q;
        solid = λ m. x.solid n (s.no_marks n [] m);
      })
      (x.reads n ts lt));
}

pub assoc_same : {T A B C : Type 0} (f : Form T A) (g : A → Form T B) (k : B → Form T C) →
    Same (f >>= (λ v. g v >>= k)) (f >>= g >>= k)
assoc_same f g k = record {
  words = λ n. assoc_in f g k n;
  no_words = λ n. assoc_out f g k n;
  marks = λ n. assoc_mark_in f g k n;
  no_marks = λ n. assoc_mark_out f g k n;
  read = λ n ts. after_assoc (f.read n ts) g k;
}

pub bind_eats : {T A B : Type 0} (m : ℕ) (p q : T → Bool) (f : Form T A) (g : A → Form T B) →
    Eats m p f → ((v : A) → Exact m q (g v)) → ((v : A) → Follows p q (g v)) → Eats m q (f >>= g)
bind_eats m p q f g ef eg fol R k b lm h c =
    good_same (suc b) (f >>= (λ v. g v >>= k)) (f >>= g >>= k) (assoc_same f g k)
    (ef R (λ v. g v >>= k) b lm (λ v. eg v R k b lm h c) (λ v. (fol v).follows R k c))

pub bind_exact : {T A B : Type 0} (m : ℕ) (p q : T → Bool) (f : Form T A) (g : A → Form T B) →
    Exact m p f → ((v : A) → Exact m q (g v)) → ((v : A) → Follows p q (g v)) → Exact m q (f >>= g)
bind_exact m p q f g ef eg fol R k b lm h c =
    good_same b (f >>= (λ v. g v >>= k)) (f >>= g >>= k) (assoc_same f g k)
    (ef R (λ v. g v >>= k) b lm (λ v. eg v R k b lm h c) (λ v. (fol v).follows R k c))

-- ---- with what a form begins, and what may follow one

pub starts_append : {T : Type 0} (q : T → Bool) (u v ts : List T) → Starts q u → ts ≡ u ++ v → Starts q ts
starts_append q [] v ts h e = absurd h
starts_append q (x ∷ u) v ts h e = subst (λ z. Starts q z) (sym e) h

pub begins_bind : {T A B : Type 0} (q : T → Bool) (f : Form T A) (g : A → Form T B) → Begins q f → Begins q (f >>= g)
begins_bind q f g h = record { words = words; marks = marks }
  where
    words : (n : ℕ) (ts : List _) (y : _) → (f >>= g).words n ts y → Starts q ts
    words n ts y (u, v, x, fw, gw, s) = starts_append q u v ts (h.words n u x fw) s

    marks : (n : ℕ) (ts : List _) → (f >>= g).marks n ts → Starts q ts
    marks n ts (inl m) = h.marks n ts m
    marks n ts (inr (u, v, x, fw, gw, s)) = starts_append q u v ts (h.words n u x fw) s

pub begins_token : {T : Type 0} (p : T → Bool) → Begins p (token p)
begins_token p = record {
  words = λ n ts t w. subst (λ z. Starts p z) (sym w.0) w.1;
  marks = λ n ts m. absurd m;
}

-- no token is of both kinds
abbrev pub Apart : {T : Type 0} → (T → Bool) → (T → Bool) → Type 0
Apart {T} p q = (t : T) → p t ≡ true → q t ≡ true → ⊥

pub clear_begins : {T R : Type 0} (p q : T → Bool) (g : Form T R) → Begins p g → Apart p q → Clear q g
clear_begins p q g h a n t ts qt = (λ v w. a t (h.words n (t ∷ ts) v w) qt, λ m. a t (h.marks n (t ∷ ts) m) qt)

pub follows_begins : {T A : Type 0} (p q r : T → Bool) (f : Form T A) → Begins p f → Apart p q → Follows q r f
follows_begins p q r f h a = record { follows = λ R k c. clear_begins p q (f >>= k) (begins_bind p f k h) a }

pub follows_no : {T A : Type 0} (r : T → Bool) (f : Form T A) → Follows no r f
follows_no r f = record { follows = λ R k c n t ts e. absurd cc }

pub follows_silent : {T V : Type 0} (q : T → Bool) (value : ℕ → V) → Follows q q (silent {T = T} value)
follows_silent q value = record {
  follows = λ R k c n t ts e. (
    λ v w. (c (value n) n t ts e).0 v (silent_out value k n (t ∷ ts) v w),
    λ m. (c (value n) n t ts e).1
        (silent_mark_out value k n (t ∷ ts) m),
  );
}

pub exact_more : {T V : Type 0} (m : ℕ) (p q : T → Bool) (f : Form T V) → ((t : T) → p t ≡ true → q t ≡ true) →
    Exact m p f → Exact m q f
exact_more m p q f s e R k b lm h c = e R k b lm h (λ v n t ts pt. c v n t ts (s t pt))

pub eats_more : {T V : Type 0} (m : ℕ) (p q : T → Bool) (f : Form T V) → ((t : T) → p t ≡ true → q t ≡ true) →
    Eats m p f → Eats m q f
eats_more m p q f s e R k b lm h c = e R k b lm h (λ v n t ts pt. c v n t ts (s t pt))

clear_same : {T R : Type 0} (q : T → Bool) (g h : Form T R) → Same g h → Clear q g → Clear q h
clear_same q g h s c n t ts e = (
  λ v w. (c n t ts e).0 v (s.no_words n (t ∷ ts) v w),
  λ m. (c n t ts e).1
      (s.no_marks n (t ∷ ts) m),
)

pub follows_bind : {T A B : Type 0} (q p r : T → Bool) (f : Form T A) (g : A → Form T B) → Follows q p f →
    ((v : A) → Follows p r (g v)) → Follows q r (f >>= g)
follows_bind q p r f g ff fg = record {
  follows = λ R k c. clear_same q (f >>= (λ v. g v >>= k)) (f >>= g >>= k)
      (assoc_same f g k) (ff.follows R (λ v. g v >>= k) (λ v. (fg v).follows R k c));
}

pub or_cases : (x y : Bool) → x || y ≡ true → (x ≡ true) ⊎ (y ≡ true)
or_cases true y e = inl refl
or_cases false y e = inr e

pub or_left : (x y : Bool) → x ≡ true → x || y ≡ true
or_left true y e = refl
or_left false y e = absurd cc

pub or_right : (x y : Bool) → y ≡ true → x || y ≡ true
or_right true y e = refl
or_right false y e = e

pub apart_or : {T : Type 0} (p q r : T → Bool) → Apart p q → Apart p r → Apart p (λ t. q t || r t)
apart_or p q r a b t pt e = elim (or_cases (q t) (r t) e) [
  | inl x ↦ a t pt x
  | inr x ↦ b t pt x
]

pub apart_sym : {T : Type 0} (p q : T → Bool) → Apart p q → Apart q p
apart_sym p q h t x y = h t y x
