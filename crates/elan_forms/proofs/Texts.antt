-- What exact reading decides of a whole text.
use Rattle.std.proofs.Common.{◌≡◌, ℕ, suc, ◌+◌, ◌-◌, ◌<◌, ◌≤◌, List, [], ◌∷◌, ◌++◌, length, take, drop, refl, sym, ap, subst, ◌∙◌, arith, length-append, length-drop, append-nil, append_assoc}
use Rattle.std.proofs.lemmas.List.{drop_at, take_at, take-append-drop}
use Rattle.std.proofs.Math.Seq.{take-add}
use Rattle.elan_forms.specs.Whole.{Possible, Impossible, Unmarked, Stops, Exceeds, StopsAt, ExceedsAt}

module _ {T V : Type 0} (W : List T → V → Type 0) (M : List T → Type 0) (ts rest : List T) (at : ℕ)
    (place : at ≡ length ts - length rest) where
  front_length : (front : List T) → ts ≡ front ++ rest → length front ≡ at
  front_length front e = let l : length ts ≡ length (front ++ rest) = ap length e in omega
      (arith, length-append front rest)

  front_is : (front : List T) → ts ≡ front ++ rest → front ≡ take at ts
  front_is front e = sym (ap (take at) e ∙ take_at front rest at (front_length front e))

  rest_is : (front : List T) → ts ≡ front ++ rest → rest ≡ drop at ts
  rest_is front e = sym (ap (drop at) e ∙ drop_at front rest at (front_length front e))

  -- the least impossible token, by its number
  pub stops_at : Stops W M ts rest → StopsAt W M ts at
  stops_at s = record {
    within = let l : length ts ≡ length (s.front ++ rest) = ap length s.split in omega
        (arith, length-append s.front rest);
    possible = subst (Possible W) (front_is s.front s.split) s.possible;
    impossible = subst (λ x. Impossible W (take at ts) x) (rest_is s.front s.split)
        (subst (λ x. Impossible W x rest) (front_is s.front s.split) s.impossible);
    unmarked = subst (Unmarked M) (front_is s.front s.split) s.unmarked;
  }

  -- the first token that is one too many, by its number
  pub exceeds_at : Exceeds W M ts rest → ExceedsAt W M ts at
  exceeds_at s =
      let split : ts ≡ s.front ++ rest = s.split ∙ ap (λ z. s.front ++ z) (sym s.here) in
      let more : s.front ++ s.token ∷ [] ≡ take (at + 1) ts = next s.front s.token s.after split s.split in
      record {
        within = let l : length ts ≡ length (s.front ++ s.token ∷ s.after) = ap length s.split in omega
            (arith, length-append s.front (s.token ∷ s.after), front_length s.front split);
        possible = subst (Possible W) more s.possible;
        marked = subst M more s.marked;
        unmarked = subst (Unmarked M) (front_is s.front split) s.unmarked;
      }
    where
      next : (front : List T) (t : T) (after : List T) → ts ≡ front ++ rest → ts ≡ front ++ t ∷ after →
          front ++ t ∷ [] ≡ take (at + 1) ts
      next front t after split e =
          let e2 : ts ≡ (front ++ t ∷ []) ++ after = e ∙ sym (append_assoc front (t ∷ []) after) in
          sym (ap (take (at + 1)) e2 ∙ take_at (front ++ t ∷ []) after (at + 1)
          (omega (arith, length-append front (t ∷ []), front_length front split)))

-- a text that is stopped has no value
pub stops_none : {T V : Type 0} (W : List T → V → Type 0) (M : List T → Type 0) (ts : List T) (at : ℕ) →
    StopsAt W M ts at → (v : V) → W ts v → ⊥
stops_none {T} {V} W M ts at s v w = go (take at ts) (drop at ts) (take-append-drop at ts) s.impossible
  where
    go : (front rest : List T) → front ++ rest ≡ ts → Impossible W front rest → ⊥
    go front [] e i = i v (subst (λ z. W z v) (sym e ∙ append-nil front) w)
    go front (t ∷ rest) e i = i (rest, v, subst (λ z. W z v) (sym e ∙ sym (append_assoc front (t ∷ []) rest)) w)

-- a text that exceeds has a mark in it
pub exceeds_marked : {T V : Type 0} (W : List T → V → Type 0) (M : List T → Type 0) (ts : List T) (at : ℕ) →
    ExceedsAt W M ts at → Unmarked M ts → ⊥
exceeds_marked W M ts at s u = u (take (at + 1) ts) (drop (at + 1) ts) (sym (take-append-drop (at + 1) ts)) s.marked

-- ---- a text is refused at one token

take_split : {T : Type 0} (ts : List T) (a b : ℕ) → a ≤ b → take b ts ≡ take a ts ++ take (b - a) (drop a ts)
take_split ts a b le = let e : a + (b - a) ≡ b = omega arith in ap (λ n. take n ts) (sym e) ∙ take-add a (b - a) ts

module _ {T V : Type 0} (W : List T → V → Type 0) (M : List T → Type 0) (ts : List T) where
  -- what is possible does not pass the least impossible token
  not_past : (a b : ℕ) → StopsAt W M ts a → Possible W (take b ts) → b ≤ length ts → a < b → ⊥
  not_past a b s p le lt = go (drop a ts) refl s.impossible
    where
      more : (t : T) (rest : List T) (c : ℕ) → drop a ts ≡ t ∷ rest → b - a ≡ suc c →
          take b ts ≡ (take a ts ++ t ∷ []) ++ take c rest
      more t rest c e1 e2 =
          take_split ts a b (omega arith) ∙ ap (λ z. take a ts ++ take z (drop a ts)) e2 ∙ ap
          (λ z. take a ts ++ take (suc c) z) e1
          ∙ sym (append_assoc (take a ts) (t ∷ []) (take c rest))

      go : (rest : List T) → drop a ts ≡ rest → Impossible W (take a ts) rest → ⊥
      go [] e i = let l : length (drop a ts) ≡ 0 = ap length e in absurd (omega (arith, length-drop a ts))
      go (t ∷ rest) e i =
          let e2 : b - a ≡ suc (b - a - 1) = omega arith in
          i (
            take (b - a - 1) rest ++ p.0,
            p.1,
            subst (λ z. W z p.1) (ap (λ z. z ++ p.0) (more t rest (b - a - 1) e e2) ∙ append_assoc
                (take a ts ++ t ∷ []) (take (b - a - 1) rest) p.0) p.2,
          )

  -- what is unmarked does not pass the first mark
  not_past_mark : (a b : ℕ) → ExceedsAt W M ts a → Unmarked M (take b ts) → a < b → ⊥
  not_past_mark a b s u lt = u (take (a + 1) ts) (take (b - (a + 1)) (drop (a + 1) ts))
      (take_split ts (a + 1) b (omega arith)) s.marked

  pub stops_once : (a b : ℕ) → StopsAt W M ts a → StopsAt W M ts b → a ≡ b
  stops_once a b s r =
      let no1 : a < b → ⊥ = not_past a b s r.possible r.within in
      let no2 : b < a → ⊥ = not_past b a r s.possible s.within in
      omega (arith, no1, no2)

  pub exceeds_once : (a b : ℕ) → ExceedsAt W M ts a → ExceedsAt W M ts b → a ≡ b
  exceeds_once a b s r =
      let no1 : a < b → ⊥ = not_past_mark a b s r.unmarked in
      let no2 : b < a → ⊥ = not_past_mark b a r s.unmarked in
      omega (arith, no1, no2)

  pub stops_exceeds : (a b : ℕ) → StopsAt W M ts a → ExceedsAt W M ts b → ⊥
  stops_exceeds a b s r =
      let no1 : a < b + 1 → ⊥ = not_past a (b + 1) s r.possible (let l : b < length ts = r.within in omega arith) in
      let no2 : b < a → ⊥ = not_past_mark b a r s.unmarked in
      omega (arith, no1, no2)
