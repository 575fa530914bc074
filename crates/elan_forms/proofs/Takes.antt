-- Forms with the kinds of tokens with which they begin, and the law of their reading, in one record.
use Rattle.std.proofs.Common.{◌≡◌, ℕ, zero, suc, ◌+◌, Bool, true, false, cond, ◌||◌, List, [], ◌∷◌, ◌++◌, length, ◌⊎◌, inl, inr, Some, refl, sym, ap, subst, ◌∙◌, arith}
use Rattle.elan_forms.specs.Whole.{Answer, done, refused, Gives}
use Rattle.elan_forms.specs.Form.{Form, ◌>>=◌, after, token, silent, pure, either, optional, loop, loop_words, turns, next_turn, begins_with, counted, nested, placed, spanned, whole}
use Rattle.elan_forms.proofs.Exact.{no, Clear, Exact, Eats, Starts, Begins, Follows, Apart, eats_exact, token_eats, silent_exact, bind_eats, bind_exact, starts_append, begins_bind, begins_token, follows_begins, exact_more, eats_more, or_left, or_right, Same}
use Rattle.elan_forms.proofs.Choices.{begins_either, either_eats, either_exact}
use Rattle.elan_forms.proofs.Lengths.{Shrinks, Keeps, shrinks_keeps, token_shrinks, silent_keeps, bind_shrinks, bind_keeps, either_shrinks, either_keeps}
use Rattle.elan_forms.proofs.Loops.{turns_enough, loop_exact, loop_keeps}
use Rattle.elan_forms.proofs.Spans.{begins_placed, placed_eats, placed_shrinks}
use Rattle.elan_forms.proofs.Ends.{whole_good}
use Rattle.elan_forms.proofs.Nested.{begins_counted, counted_eats, counted_shrinks, Grows, Lessens, nested_shrinks, nested_eats, unroll}

-- a test of a token by its kind
abbrev pub on : {T K : Type 0} → (T → K) → (K → Bool) → T → Bool
on kind p t = p (kind t)

-- no kind
abbrev pub none : {K : Type 0} → K → Bool
none s = false

-- one kind or the other
abbrev pub both : {K : Type 0} → (K → Bool) → (K → Bool) → K → Bool
both p q s = p s || q s

-- no kind is in both
pub record Separate {K : Type 0} (p q : K → Bool) : Type 0 where
  pub never : (s : K) → p s ≡ true → q s ≡ true → ⊥

-- each kind of the first is in the second
pub record Within {K : Type 0} (p q : K → Bool) : Type 0 where
  pub also : (s : K) → p s ≡ true → q s ≡ true

pub apart_none : {K : Type 0} {p : K → Bool} → Separate p none
apart_none = record { never = λ s x y. absurd cc }

pub none_apart : {K : Type 0} {p : K → Bool} → Separate none p
none_apart = record { never = λ s x y. absurd cc }

pub none_within : {K : Type 0} {p : K → Bool} → Within none p
none_within = record { also = λ s x. absurd cc }

pub within_itself : {K : Type 0} {p : K → Bool} → Within p p
within_itself = record { also = λ s x. x }

-- it takes no token, or begins with such a one
pub record Opens {T V : Type 0} (p : T → Bool) (f : Form T V) : Type 0 where
  pub words : (n : ℕ) (ts : List T) (v : V) → f.words n ts v → (ts ≡ []) ⊎ Starts p ts
  pub marks : (n : ℕ) (ts : List T) → f.marks n ts → Starts p ts

-- It takes a token, the first of a kind of p, and is read exactly before what begins with no kind of q. The token that
-- it takes carries its law one step.
pub record Takes {T K V : Type 0} (kind : T → K) (m : ℕ) (p q : K → Bool) (f : Form T V) : Type 1 where
  pub begins : Begins (on kind p) f
  pub shrinks : Shrinks f
  pub eats : Eats m (on kind q) f

-- the same, up to the bound alone
pub record Stands {T K V : Type 0} (kind : T → K) (m : ℕ) (p q : K → Bool) (f : Form T V) : Type 1 where
  pub begins : Begins (on kind p) f
  pub keeps : Keeps f
  pub exact : Exact m (on kind q) f

-- the same of a form that may take no token
pub record May {T K V : Type 0} (kind : T → K) (m : ℕ) (p q : K → Bool) (f : Form T V) : Type 1 where
  pub opens : Opens (on kind p) f
  pub keeps : Keeps f
  pub exact : Exact m (on kind q) f

-- ---- what opens a form

starts_more : {T : Type 0} (p q : T → Bool) → ((t : T) → p t ≡ true → q t ≡ true) → (ts : List T) → Starts p ts →
    Starts q ts
starts_more p q h [] s = s
starts_more p q h (t ∷ ts) s = h t s

begins_more : {T V : Type 0} (p q : T → Bool) (f : Form T V) → ((t : T) → p t ≡ true → q t ≡ true) → Begins p f →
    Begins q f
begins_more p q f h b = record {
  words = λ n ts v w. starts_more p q h ts (b.words n ts v w);
  marks = λ n ts m.
      starts_more p q h ts (b.marks n ts m);
}

opens_more : {T V : Type 0} (p q : T → Bool) (f : Form T V) → ((t : T) → p t ≡ true → q t ≡ true) → Opens p f →
    Opens q f
opens_more {T} {V} p q f h b = record {
  words = λ n ts v w. go ts (b.words n ts v w);
  marks = λ n ts m. starts_more p
      q h ts (b.marks n ts m);
}
  where
    go : (ts : List T) → (ts ≡ []) ⊎ Starts p ts → (ts ≡ []) ⊎ Starts q ts
    go ts (inl e) = inl e
    go ts (inr s) = inr (starts_more p q h ts s)

begins_opens : {T V : Type 0} (p : T → Bool) (f : Form T V) → Begins p f → Opens p f
begins_opens p f b = record { words = λ n ts v w. inr (b.words n ts v w); marks = b.marks }

opens_silent : {T V : Type 0} (p : T → Bool) (value : ℕ → V) → Opens {T = T} p (silent value)
opens_silent p value = record { words = λ n ts v w. inl w.0; marks = λ n ts m. absurd m }

opens_bind : {T A B : Type 0} (p : T → Bool) (f : Form T A) (g : A → Form T B) → Opens p f →
    ((v : A) → Opens p (g v)) → Opens p (f >>= g)
opens_bind {T} {A} {B} p f g hf hg = record { words = words; marks = marks }
  where
    second : (u v ts : List T) → ts ≡ u ++ v → u ≡ [] → (v ≡ []) ⊎ Starts p v → (ts ≡ []) ⊎ Starts p ts
    second u v ts s e (inl z) = inl (s ∙ ap (λ y. y ++ v) e ∙ z)
    second u v ts s e (inr h) = inr (subst (Starts p) (sym (s ∙ ap (λ y. y ++ v) e)) h)

    words : (n : ℕ) (ts : List T) (y : B) → (f >>= g).words n ts y → (ts ≡ []) ⊎ Starts p ts
    words n ts y (u, v, x, fw, gw, s) = elim (hf.words n u x fw) [
      | inl e ↦ second u v ts s e ((hg x).words _ v y gw)
      | inr h ↦ inr (starts_append p u v ts h s)
    ]

    marks : (n : ℕ) (ts : List T) → (f >>= g).marks n ts → Starts p ts
    marks n ts (inl m) = hf.marks n ts m
    marks n ts (inr (u, v, x, fw, gw, s)) = elim (hf.words n u x fw) [
      | inl e ↦ subst (Starts p) (sym (s ∙ ap (λ y. y ++ v) e)) ((hg x).marks _ v gw)
      | inr h ↦ starts_append p u v ts h s
    ]

-- a form that may take no token and then one that does
begins_open : {T A B : Type 0} (p : T → Bool) (f : Form T A) (g : A → Form T B) → Opens p f →
    ((v : A) → Begins p (g v)) → Begins p (f >>= g)
begins_open {T} {A} {B} p f g hf hg = record { words = words; marks = marks }
  where
    words : (n : ℕ) (ts : List T) (y : B) → (f >>= g).words n ts y → Starts p ts
    words n ts y (u, v, x, fw, gw, s) = elim (hf.words n u x fw) [
      | inl e ↦ subst (Starts p) (sym (s ∙ ap (λ y. y ++ v) e)) ((hg x).words _ v y gw)
      | inr h ↦ starts_append p u v ts h s
    ]

    marks : (n : ℕ) (ts : List T) → (f >>= g).marks n ts → Starts p ts
    marks n ts (inl m) = hf.marks n ts m
    marks n ts (inr (u, v, x, fw, gw, s)) = elim (hf.words n u x fw) [
      | inl e ↦ subst (Starts p) (sym (s ∙ ap (λ y. y ++ v) e)) ((hg x).marks _ v gw)
      | inr h ↦ starts_append p u v ts h s
    ]

opens_either : {T V : Type 0} (p : T → Bool) (f g : Form T V) → Opens p f → Opens p g → Opens p (either f g)
opens_either {T} {V} p f g hf hg = record { words = words; marks = marks }
  where
    words : (n : ℕ) (ts : List T) (y : V) → (either f g).words n ts y → (ts ≡ []) ⊎ Starts p ts
    words n ts y (inl w) = hf.words n ts y w
    words n ts y (inr w) = hg.words n ts y w

    marks : (n : ℕ) (ts : List T) → (either f g).marks n ts → Starts p ts
    marks n ts (inl w) = hf.marks n ts w
    marks n ts (inr w) = hg.marks n ts w

-- where it takes none, what goes on begins the text
opens_follows : {T V : Type 0} (p q r : T → Bool) (f : Form T V) → Opens p f → Apart p q →
    ((t : T) → q t ≡ true → r t ≡ true) → Follows q r f
opens_follows {T} {V} p q r f o apart more = record { follows = follows }
  where
    first_of : (t : T) (ts u v : List T) → t ∷ ts ≡ u ++ v → Starts p u → p t ≡ true
    first_of t ts u v s h = starts_append p u v (t ∷ ts) h s

    follows : (R : Type 0) (k : V → Form T R) → ((v : V) → Clear r (k v)) → Clear q (f >>= k)
    follows R k c n t ts qt = (words, marks)
      where
        words : (y : R) → (f >>= k).words n (t ∷ ts) y → ⊥
        words y (u, v, x, fw, kw, s) = elim (o.words n u x fw) [
          | inl e ↦ (c x _ t ts (more t qt)).0 y (subst (λ z. (k x).words (n + length u) z y)
              (sym (s ∙ ap (λ z. z ++ v) e)) kw)
          | inr h ↦ apart t (first_of t ts u v s h) qt
        ]

        marks : (f >>= k).marks n (t ∷ ts) → ⊥
        marks (inl m) = apart t (o.marks n (t ∷ ts) m) qt
        marks (inr (u, v, x, fw, kw, s)) = elim (o.words n u x fw) [
          | inl e ↦ (c x _ t ts (more t qt)).1 (subst (λ z. (k x).marks (n + length u) z)
              (sym (s ∙ ap (λ z. z ++ v) e)) kw)
          | inr h ↦ apart t (first_of t ts u v s h) qt
        ]

in_left : {K : Type 0} (p s : K → Bool) (x : K) → p x ≡ true → both p s x ≡ true
in_left p s x e = or_left (p x) (s x) e

in_right : {K : Type 0} (p s : K → Bool) (x : K) → s x ≡ true → both p s x ≡ true
in_right p s x e = or_right (p x) (s x) e

first_begins : {T K V : Type 0} (kind : T → K) (p : K → Bool) (f : Form T V) → ((t : T) → f.first t ≡ p (kind t)) →
    Begins (on kind p) f → Begins f.first f
first_begins kind p f e b = begins_more (on kind p) f.first f (λ t x. e t ∙ x) b

starts_loop : {T K S : Type 0} (kind : T → K) (p : K → Bool) (f : S → Form T S) →
    ((s : S) → Begins (on kind p) (f s)) → (s : S) → Opens (on kind p) (loop (λ _. on kind p) f s)
starts_loop {T} {K} {S} kind p f b s = record {
  words = λ n ts y w. go w.0 s n ts y w.1;
  marks = λ n ts mk. marks mk.0
      s n ts mk.1 mk.2 mk.3 mk.4 mk.5 mk.6;
}
  where
    go : (i : ℕ) (s : S) (n : ℕ) (ts : List T) (y : S) → loop_words f i s n ts y → (ts ≡ []) ⊎ Starts (on kind p) ts
    go zero s n ts y w = inl w.0
    go (suc i) s n ts y (u, v, x, fw, w, e) = inr (starts_append (on kind p) u v ts ((b s).words n u x fw) e)

    marks : (i : ℕ) (s : S) (n : ℕ) (ts u v : List T) (x : S) → loop_words f i s n u x →
        (f x).marks (n + length u) v → ts ≡ u ++ v → Starts (on kind p) ts
    marks zero s n ts u v x w mk e = subst (Starts (on kind p)) (sym (e ∙ ap (λ z. z ++ v) w.0)) ((b x).marks _ v mk)
    marks (suc i) s n ts u v x (u2, v2, x2, fw, w, e2) mk e = starts_append (on kind p) u v ts
        (starts_append (on kind p) u2 v2 u ((b s).words n u2 x2 fw) e2) e

none_in : {K : Type 0} {p : K → Bool} → Within (both p none) p
none_in {K} {p} = record { also = λ s e. go (p s) e }
  where
    go : (x : Bool) → x || false ≡ true → x ≡ true
    go true e = e
    go false e = e

-- ---- one form

module _ {T K : Type 0} {kind : T → K} {m : ℕ} where
  -- what takes a token stands
  pub so : {V : Type 0} {p q : K → Bool} {f : Form T V} → Takes kind m p q f → Stands kind m p q f
  so {V} {p} {q} {f} h = record {
    begins = h.begins;
    keeps = shrinks_keeps f h.shrinks;
    exact = eats_exact m
        (on kind q) f h.eats;
  }

  pub may : {V : Type 0} {p q : K → Bool} {f : Form T V} → Stands kind m p q f → May kind m p q f
  may {V} {p} {q} {f} h = record { opens = begins_opens (on kind p) f h.begins; keeps = h.keeps; exact = h.exact }

  pub takes_more : {V : Type 0} {p q r : K → Bool} {f : Form T V} → Within q r → Takes kind m p q f → Takes kind m p r f
  takes_more {V} {p} {q} {r} {f} w h = record {
    begins = h.begins;
    shrinks = h.shrinks;
    eats = eats_more m (on kind q)
        (on kind r) f (λ t. w.also (kind t)) h.eats;
  }

  pub stands_more : {V : Type 0} {p q r : K → Bool} {f : Form T V} → Within q r → Stands kind m p q f →
      Stands kind m p r f
  stands_more {V} {p} {q} {r} {f} w h = record {
    begins = h.begins;
    keeps = h.keeps;
    exact = exact_more m (on kind q)
        (on kind r) f (λ t. w.also (kind t)) h.exact;
  }

  pub may_more : {V : Type 0} {p q r s : K → Bool} {f : Form T V} → Within p s → Within q r → May kind m p q f →
      May kind m s r f
  may_more {V} {p} {q} {r} {s} {f} v w h = record {
    opens = opens_more (on kind p) (on kind s) f
        (λ t. v.also (kind t)) h.opens;
    keeps = h.keeps;
    exact = exact_more m (on kind q) (on kind r) f
        (λ t. w.also (kind t)) h.exact;
  }

  pub takes_token : (p : K → Bool) (w : T) → p (kind w) ≡ true → Takes kind m p none (token (on kind p))
  takes_token p w e = record {
    begins = begins_token (on kind p);
    shrinks = token_shrinks (on kind p);
    eats =
        token_eats m (on kind p) w e;
  }

  pub takes_counted : (p : K → Bool) (left : ℕ) (w : T) → p (kind w) ≡ true →
      Takes kind m p none (counted (on kind p) left)
  takes_counted p left w e = record {
    begins = begins_counted (on kind p) left;
    shrinks = counted_shrinks (on kind p)
        left;
    eats = counted_eats m (on kind p) left w e;
  }

  pub may_silent : {V : Type 0} {value : ℕ → V} {r : K → Bool} → May kind m none r (silent value)
  may_silent {V} {value} {r} = record {
    opens = opens_silent no value;
    keeps = silent_keeps value;
    exact = exact_more
        m no (on kind r) (silent value) (λ t e. absurd cc) (silent_exact m value);
  }

  pub may_pure : {V : Type 0} {value : V} {r : K → Bool} → May kind m none r (pure value)
  may_pure {V} {value} = may_silent {value = λ n. value}

  -- ---- one form and then another

  pub then_stands : {A B : Type 0} {p q s r : K → Bool} {f : Form T A} {g : A → Form T B} →
      Takes kind m p q f → ((v : A) → Stands kind m s r (g v)) → Separate s q → Takes kind m p r (f >>= g)
  then_stands {A} {B} {p} {q} {s} {r} {f} {g} hf hg apart = record {
    begins = begins_bind (on kind p) f g hf.begins;
    shrinks = bind_shrinks f g hf.shrinks (λ v. (hg v).keeps);
    eats = bind_eats m (on kind q) (on kind r) f g hf.eats (λ v. (hg v).exact)
        (λ v. follows_begins (on kind s) (on kind q) (on kind r) (g v) (hg v).begins
        (λ t x y. apart.never (kind t) x y));
  }

  pub then_may : {A B : Type 0} {p q s r : K → Bool} {f : Form T A} {g : A → Form T B} →
      Takes kind m p q f → ((v : A) → May kind m s r (g v)) → Separate s q → Within q r → Takes kind m p r (f >>= g)
  then_may {A} {B} {p} {q} {s} {r} {f} {g} hf hg apart within = record {
    begins = begins_bind (on kind p) f g hf.begins;
    shrinks = bind_shrinks f g hf.shrinks (λ v. (hg v).keeps);
    eats = bind_eats m (on kind q) (on kind r) f g hf.eats (λ v. (hg v).exact)
        (λ v. opens_follows (on kind s) (on kind q) (on kind r) (g v) (hg v).opens (λ t x y. apart.never (kind t) x y)
        (λ t. within.also (kind t)));
  }

  pub stands_then_stands : {A B : Type 0} {p q s r : K → Bool} {f : Form T A} {g : A → Form T B} →
      Stands kind m p q f → ((v : A) → Stands kind m s r (g v)) → Separate s q → Stands kind m p r (f >>= g)
  stands_then_stands {A} {B} {p} {q} {s} {r} {f} {g} hf hg apart = record {
    begins = begins_bind (on kind p) f g hf.begins;
    keeps = bind_keeps f g hf.keeps (λ v. (hg v).keeps);
    exact = bind_exact m (on kind q) (on kind r) f g hf.exact (λ v. (hg v).exact)
        (λ v. follows_begins (on kind s) (on kind q) (on kind r) (g v) (hg v).begins
        (λ t x y. apart.never (kind t) x y));
  }

  pub stands_then_may : {A B : Type 0} {p q s r : K → Bool} {f : Form T A} {g : A → Form T B} →
      Stands kind m p q f → ((v : A) → May kind m s r (g v)) → Separate s q → Within q r → Stands kind m p r (f >>= g)
  stands_then_may {A} {B} {p} {q} {s} {r} {f} {g} hf hg apart within = record {
    begins = begins_bind (on kind p) f g hf.begins;
    keeps = bind_keeps f g hf.keeps (λ v. (hg v).keeps);
    exact = bind_exact m (on kind q) (on kind r) f g hf.exact (λ v. (hg v).exact)
        (λ v. opens_follows (on kind s) (on kind q) (on kind r) (g v) (hg v).opens (λ t x y. apart.never (kind t) x y)
        (λ t. within.also (kind t)));
  }

  pub may_then_stands : {A B : Type 0} {p q s r : K → Bool} {f : Form T A} {g : A → Form T B} →
      May kind m p q f → ((v : A) → Stands kind m s r (g v)) → Separate s q → Stands kind m (both p s) r (f >>= g)
  may_then_stands {A} {B} {p} {q} {s} {r} {f} {g} hf hg apart = record {
    begins = begins_open (on kind (both p s)) f g (opens_more (on kind p) (on kind (both p s)) f
        (λ t. in_left p s (kind t)) hf.opens)
        (λ v. begins_more (on kind s) (on kind (both p s)) (g v) (λ t. in_right p s (kind t)) (hg v).begins);
    keeps = bind_keeps f g hf.keeps (λ v. (hg v).keeps);
    exact = bind_exact m (on kind q) (on kind r) f g hf.exact (λ v. (hg v).exact)
        (λ v. follows_begins (on kind s) (on kind q) (on kind r) (g v) (hg v).begins
        (λ t x y. apart.never (kind t) x y));
  }

  pub may_then_may : {A B : Type 0} {p q s r : K → Bool} {f : Form T A} {g : A → Form T B} →
      May kind m p q f → ((v : A) → May kind m s r (g v)) → Separate s q → Within q r → May kind m (both p s) r
      (f >>= g)
  may_then_may {A} {B} {p} {q} {s} {r} {f} {g} hf hg apart within = record {
    opens = opens_bind (on kind (both p s)) f g (opens_more (on kind p) (on kind (both p s)) f
        (λ t. in_left p s (kind t)) hf.opens)
        (λ v. opens_more (on kind s) (on kind (both p s)) (g v) (λ t. in_right p s (kind t)) (hg v).opens);
    keeps = bind_keeps f g hf.keeps (λ v. (hg v).keeps);
    exact = bind_exact m (on kind q) (on kind r) f g hf.exact (λ v. (hg v).exact)
        (λ v. opens_follows (on kind s) (on kind q) (on kind r) (g v) (hg v).opens (λ t x y. apart.never (kind t) x y)
        (λ t. within.also (kind t)));
  }

  -- ---- and where anything may follow the one form

  pub then_next : {A B : Type 0} {p s r : K → Bool} {f : Form T A} {g : A → Form T B} →
      Takes kind m p none f → ((v : A) → Stands kind m s r (g v)) → Takes kind m p r (f >>= g)
  then_next hf hg = then_stands hf hg apart_none

  pub then_last : {A B : Type 0} {p s r : K → Bool} {f : Form T A} {g : A → Form T B} →
      Takes kind m p none f → ((v : A) → May kind m s r (g v)) → Takes kind m p r (f >>= g)
  then_last hf hg = then_may hf hg apart_none none_within

  -- a form, and a value made of its own
  pub then_value : {A B : Type 0} {p q : K → Bool} {f : Form T A} (value : A → ℕ → B) → Takes kind m p q f →
      Takes kind m p q (f >>= (λ v. silent (value v)))
  then_value value hf = then_may hf (λ v. may_silent) none_apart within_itself

  pub stands_value : {A B : Type 0} {p q : K → Bool} {f : Form T A} (value : A → ℕ → B) → Stands kind m p q f →
      Stands kind m p q (f >>= (λ v. silent (value v)))
  stands_value value hf = stands_then_may hf (λ v. may_silent) none_apart within_itself

  pub may_value : {A B : Type 0} {p q : K → Bool} {f : Form T A} (value : A → ℕ → B) → May kind m p q f →
      May kind m p q (f >>= (λ v. silent (value v)))
  may_value value hf = may_more none_in within_itself (may_then_may hf (λ v. may_silent) none_apart within_itself)

  -- ---- the one form or the other

  pub takes_either : {V : Type 0} {p s q : K → Bool} {f g : Form T V} → ((t : T) → f.first t ≡ p (kind t)) →
      Takes kind m p q f → Takes kind m s q g → Separate s p → Takes kind m (both p s) q (either f g)
  takes_either {V} {p} {s} {q} {f} {g} e hf hg apart = record {
    begins = begins_either (on kind p) (on kind s) f g hf.begins hg.begins;
    shrinks = either_shrinks f g hf.shrinks hg.shrinks;
    eats = either_eats m (on kind q) f g (first_begins kind p f e hf.begins) hf.eats hg.eats
        (follows_begins (on kind s) f.first (on kind q) g hg.begins (λ t x y. apart.never (kind t) x (sym (e t) ∙ y)));
  }

  pub stands_either : {V : Type 0} {p s q : K → Bool} {f g : Form T V} → ((t : T) → f.first t ≡ p (kind t)) →
      Stands kind m p q f → Stands kind m s q g → Separate s p → Stands kind m (both p s) q (either f g)
  stands_either {V} {p} {s} {q} {f} {g} e hf hg apart = record {
    begins = begins_either (on kind p) (on kind s) f g hf.begins hg.begins;
    keeps = either_keeps f g hf.keeps hg.keeps;
    exact = either_exact m (on kind q) f g (first_begins kind p f e hf.begins) hf.exact hg.exact
        (follows_begins (on kind s) f.first (on kind q) g hg.begins (λ t x y. apart.never (kind t) x (sym (e t) ∙ y)));
  }

  pub may_either : {V : Type 0} {p s q : K → Bool} {f g : Form T V} → ((t : T) → f.first t ≡ p (kind t)) →
      Stands kind m p q f → May kind m s q g → Separate s p → Within p q → May kind m (both p s) q (either f g)
  may_either {V} {p} {s} {q} {f} {g} e hf hg apart within = record {
    opens = opens_either (on kind (both p s)) f g (opens_more (on kind p) (on kind (both p s)) f
        (λ t. in_left p s (kind t)) (begins_opens (on kind p) f hf.begins))
        (opens_more (on kind s) (on kind (both p s)) g (λ t. in_right p s (kind t)) hg.opens);
    keeps = either_keeps f g hf.keeps hg.keeps;
    exact = either_exact m (on kind q) f g (first_begins kind p f e hf.begins) hf.exact hg.exact
        (opens_follows (on kind s) f.first (on kind q) g hg.opens (λ t x y. apart.never (kind t) x (sym (e t) ∙ y))
        (λ t y. within.also (kind t) (sym (e t) ∙ y)));
  }

  -- a form or nothing
  pub may_optional : {V : Type 0} {p q r : K → Bool} {f : Form T V} → ((t : T) → f.first t ≡ p (kind t)) →
      Takes kind m p q f → Within q r → Within p r →
      May kind m p r (optional f)
  may_optional {V} {p} {q} {r} {f} e hf wq wp =
      may_more none_in within_itself (may_either e (so (takes_more wq (then_value (λ v n. Some v) hf))) may_silent
      none_apart wp)

  -- ---- which tokens it takes

  pub takes_placed : {V S : Type 0} {p q : K → Bool} {f : Form T V} (make : ℕ → V → ℕ → S) → Takes kind m p q f →
      Takes kind m p q (placed make f)
  takes_placed {V} {S} {p} {q} {f} make h = record {
    begins = begins_placed (on kind p) make f h.begins;
    shrinks = placed_shrinks make f h.shrinks;
    eats = placed_eats m (on kind q) make f h.eats;
  }

  pub takes_spanned : {V S : Type 0} {p q : K → Bool} {f : Form T V} (make : ℕ → ℕ → S) → Takes kind m p q f →
      Takes kind m p q (spanned make f)
  takes_spanned make h = takes_placed (λ first v past. make first past) h

  -- ---- any number of turns

  pub may_loop : {S : Type 0} {p q r : K → Bool} {f : S → Form T S} → ((s : S) → Takes kind m p q (f s)) →
      Separate p q → Within p r → Within q r → (s : S) →
      May kind m p r (loop (λ _. on kind p) f s)
  may_loop {S} {p} {q} {r} {f} h apart l g s = record {
    opens = starts_loop kind p f (λ x. (h x).begins) s;
    keeps = loop_keeps (λ _. on kind p) f (λ x. (h x).begins) (λ x. (h x).shrinks) s;
    exact = loop_exact (λ _. on kind p) f (λ x. (h x).begins) m (on kind q) (on kind r) (λ x. (h x).eats)
        (λ x. (h x).shrinks) (λ _ t x y. apart.never (kind t) x y) (λ _ t. l.also (kind t)) (λ t. g.also (kind t)) s;
  }

-- one turn, and then more
pub loop_turn : {T S : Type 0} (p : S → T → Bool) (f : S → Form T S) → ((s : S) → Shrinks (f s)) →
    (s : S) (n : ℕ) (ts : List T) →
    (loop p f s).read n ts ≡ cond (begins_with (p s) ts) (after ((f s).read n ts) (loop p f)) (done s n ts)
unfolding turns
loop_turn p f h s n [] = refl
loop_turn {T} {S} p f h s n (t ∷ ts) = ap (λ a. cond (p s t) a (done s n (t ∷ ts))) (go ((f s).read n (t ∷ ts)) refl)
  where
    go : (a : Answer T S) → (f s).read n (t ∷ ts) ≡ a → next_turn a (turns p f (length ts)) ≡ after a (loop p f)
    go (done x m r) e = turns_enough p f h (length ts) (length r) x m r (omega (arith, h s n (t ∷ ts) x m r e))
        (omega arith)
    go (refused why r) e = refl

-- what is exact reads a whole text
pub whole_gives : {T K V : Type 0} (kind : T → K) (p q : K → Bool) (f : Form T V) → ((m : ℕ) → Stands kind m p q f) →
    (ts : List T) →
    Gives ((whole f).words 0) ((whole f).marks 0) ts ((whole f).read 0 ts)
whole_gives kind p q f h ts = (whole_good (suc (length ts)) (on kind q) f (h (suc (length ts))).exact).reads 0 ts
    (omega arith)

-- A form that stands in itself: its law follows from that of its body, given the law of the form in it up to a bound.
pub takes_nested : {T K S V : Type 0} (kind : T → K) (p q : K → Bool) (body : (S → Form T V) → S → Form T V) →
    Grows body → Lessens body →
    ((s : S) (n : ℕ) → (w : List T) × (v : V) × (nested (on kind p) body s).words n w v) →
    ((s : S) → Begins (on kind p) (body (nested (on kind p) body) s)) →
    ((m : ℕ) → ((s : S) → Stands kind m p q (nested (on kind p) body s)) → (s : S) → Takes kind m p q
    (body (nested (on kind p) body) s)) →
    (m : ℕ) (s : S) → Takes kind m p q (nested (on kind p) body s)
takes_nested {T} {K} {S} {V} kind p q body grows lessens word opening body_takes m s = record {
  begins = begins s;
  shrinks = nested_shrinks (on kind p) body grows lessens s;
  eats = nested_eats (on kind p) body grows lessens (on kind q) word begins eats m s;
}
  where
    begins : (s : S) → Begins (on kind p) (nested (on kind p) body s)
    begins s =
        let same : Same (body (nested (on kind p) body) s) (nested (on kind p) body s) = unroll (on kind p) body grows
        lessens s in
        record {
          words = λ n ts v w. (opening s).words n ts v (same.no_words n ts v w);
          marks = λ n ts w.
              (opening s).marks n ts (same.no_marks n ts w);
        }

    eats : (m : ℕ) → ((s : S) → Exact m (on kind q) (nested (on kind p) body s)) → (s : S) →
        Eats m (on kind q) (body (nested (on kind p) body) s)
    eats m h s = (body_takes m (λ x. record {
      begins = begins x;
      keeps = shrinks_keeps (nested (on kind p) body x) (nested_shrinks (on kind p) body grows lessens x);
      exact = h x;
    }) s).eats
