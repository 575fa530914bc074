-- How an answer for one language of whole texts carries over to another.
use Rattle.std.proofs.Common.{◌≡◌, List, [], ◌∷◌, ◌++◌, refl, sym, ap, subst, ◌∙◌, append_assoc, append-nil}
use Rattle.elan_forms.specs.Whole.{Answer, done, stuck, over, Impossible, Unmarked, Gives}

pub head_is : {T : Type 0} (a b : T) (x y : List T) → a ∷ x ≡ b ∷ y → a ≡ b
head_is a b x y e = cc

pub tail_is : {T : Type 0} (a b : T) (x y : List T) → a ∷ x ≡ b ∷ y → x ≡ y
tail_is a b x y e = cc

pub cons_not_nil : {T : Type 0} (a : T) (x : List T) → a ∷ x ≡ [] → ⊥
cons_not_nil a x e = cc

-- nothing is marked in no tokens
pub unmarked_none : {T : Type 0} (M : List T → Type 0) → (M [] → ⊥) → Unmarked M []
unmarked_none M solid [] c e m = solid m
unmarked_none M solid (x ∷ u) c e m = cons_not_nil x (u ++ c) (sym e)

pub unmarked_step : {T : Type 0} (M : List T → Type 0) (t : T) (ts : List T) → (M [] → ⊥) →
    Unmarked (λ u. M (t ∷ u)) ts → Unmarked M (t ∷ ts)
unmarked_step M t ts solid un [] c e m = solid m
unmarked_step M t ts solid un (x ∷ u) c e m =
    un u c (tail_is t x ts (u ++ c) e) (subst (λ y. M (y ∷ u)) (sym (head_is t x ts (u ++ c) e)) m)

-- an answer after one token is an answer
pub step : {T V : Type 0} (W : List T → V → Type 0) (M : List T → Type 0) (t : T) (ts : List T) (a : Answer T V) →
    (M [] → ⊥) → Gives (λ x v. W (t ∷ x) v) (λ x. M (t ∷ x)) ts a → Gives W M (t ∷ ts) a
step W M t ts (done v n rest) solid g = record {
  spelled = g.spelled;
  only = g.only;
  unmarked = unmarked_step M t ts solid g.unmarked;
}
step {T} {V} W M t ts (stuck rest) solid g = record {
  front = t ∷ g.front;
  split = ap (λ x. t ∷ x) g.split;
  possible = g.possible;
  impossible = at_rest rest g.impossible;
  unmarked = unmarked_step M t g.front solid g.unmarked;
}
  where
    at_rest : (r : List T) → Impossible (λ x v. W (t ∷ x) v) g.front r → Impossible W (t ∷ g.front) r
    at_rest [] i = i
    at_rest (s ∷ r) i = i
step W M t ts (over rest) solid g = record {
  front = t ∷ g.front;
  token = g.token;
  after = g.after;
  split = ap (λ x. t ∷ x) g.split;
  here = g.here;
  possible = g.possible;
  marked = g.marked;
  unmarked = unmarked_step M t g.front solid g.unmarked;
}

-- both texts begin with the same token, or both are empty
abbrev pub SameStart : {T : Type 0} → List T → List T → Type 0
SameStart [] [] = Unit {0}
SameStart [] (y ∷ ys) = ⊥
SameStart (x ∷ xs) [] = ⊥
SameStart (x ∷ xs) (y ∷ ys) = x ≡ y

same_start : {T : Type 0} (ts : List T) → SameStart ts ts
same_start [] = tt
same_start (t ∷ ts) = refl

start_of_front : {T : Type 0} (ts : List T) (x : T) (u c : List T) → ts ≡ (x ∷ u) ++ c → (y : List T) →
    SameStart ts (x ∷ y)
start_of_front [] x u c e y = cons_not_nil x (u ++ c) (sym e)
start_of_front (t ∷ ts) x u c e y = head_is t x ts (u ++ c) e

-- What a language of more texts has, where it has no more that begin as this one.
pub record Widens {T V : Type 0} (W W' : List T → V → Type 0) (M M' : List T → Type 0) (ts : List T) : Type 0 where
  pub words : (x : List T) (v : V) → W x v → W' x v
  pub marks : (x : List T) → M x → M' x
  pub no_words : (x : List T) (v : V) → SameStart ts x → W' x v → W x v
  pub no_marks : (x : List T) → SameStart ts x → M' x → M x
  pub solid : M' [] → ⊥

widen_unmarked : {T V : Type 0} (W W' : List T → V → Type 0) (M M' : List T → Type 0) (ts front rest : List T) →
    Widens W W' M M' ts → ts ≡ front ++ rest → Unmarked M front → Unmarked M' front
widen_unmarked W W' M M' ts front rest w e un [] c e2 m = w.solid m
widen_unmarked W W' M M' ts front rest w e un (x ∷ u) c e2 m =
    un (x ∷ u) c e2 (w.no_marks (x ∷ u) (start_of_front ts x u (c ++ rest)
    (e ∙ ap (λ z. z ++ rest) e2 ∙ append_assoc (x ∷ u) c rest) u) m)

pub widen : {T V : Type 0} (W W' : List T → V → Type 0) (M M' : List T → Type 0) (ts : List T) (a : Answer T V) →
    Widens W W' M M' ts → Gives W M ts a → Gives W' M' ts a
widen W W' M M' ts (done v n rest) w g = record {
  spelled = w.words ts v g.spelled;
  only = λ x p. g.only x (w.no_words ts x (same_start ts) p);
  unmarked = widen_unmarked W W' M M' ts ts [] w (sym (append-nil ts)) g.unmarked;
}
widen {T} {V} W W' M M' ts (stuck rest) w g = record {
  front = g.front;
  split = g.split;
  possible = (g.possible.0, g.possible.1, w.words _ _ g.possible.2);
  impossible = at g.front rest g.split g.impossible;
  unmarked = widen_unmarked W W' M M' ts g.front rest w g.split g.unmarked;
}
  where
    starts : (front : List T) (r : List T) → ts ≡ front ++ r → (s : T) (r2 : List T) → r ≡ s ∷ r2 → (c : List T) →
        SameStart ts ((front ++ s ∷ []) ++ c)
    starts [] r e s r2 e2 c = start_of_front ts s r2 [] (e ∙ e2 ∙ sym (append-nil (s ∷ r2))) c
    starts (x ∷ f) r e s r2 e2 c = start_of_front ts x f r e ((f ++ s ∷ []) ++ c)

    at : (front : List T) (r : List T) → ts ≡ front ++ r → Impossible W front r → Impossible W' front r
    at [] [] e i = λ v p. i v (w.no_words [] v (subst (λ z. SameStart z []) (sym e) tt) p)
    at (x ∷ f) [] e i = λ v p. i v (w.no_words (x ∷ f) v (start_of_front ts x f [] e f) p)
    at front (s ∷ r) e i = λ p. i (p.0, p.1, w.no_words _ _ (starts front (s ∷ r) e s r refl p.0) p.2)
widen W W' M M' ts (over rest) w g = record {
  front = g.front;
  token = g.token;
  after = g.after;
  split = g.split;
  here = g.here;
  possible = (g.possible.0, g.possible.1, w.words _ _ g.possible.2);
  marked = w.marks _ g.marked;
  unmarked = widen_unmarked W W' M M' ts g.front (g.token ∷ g.after) w g.split g.unmarked;
}
