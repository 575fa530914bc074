-- Names that are kept as other values.
use Rattle.std.proofs.Common.{◌≡◌, ◌∙◌, refl, sym, ap, ap₂, subst, ℕ, suc, ◌+◌, Bool, true, false, not, cond, nat_lt, ltb-true, ltb-false, lt-ltb, le-ltb, ◌||◌, is_some, Some, None, List, [], ◌∷◌, ◌++◌, map, length, arith}
use Rattle.std.specs.List.{position, prefix_len, list_any}
use Rattle.std.proofs.lemmas.List.{map-append, length-map}
use Rattle.std.proofs.lemmas.Bool.{cond-false}
use Rattle.std.specs.Str.{bytes_eq}
use Rattle.elan_text.specs.declared.name.Name.{Name}
use Rattle.elan_numbers.specs.Numbering.{with_name, is_called, number_of}

module _ {X Y : Type 0} (h : X → Y) where
  prefix_len-map : (p : Y → Bool) (xs : List X) → prefix_len p (map h xs) ≡ prefix_len (λ x. p (h x)) xs
  prefix_len-map p [] = refl
  prefix_len-map p (x ∷ xs) = ap (λ n. cond (p (h x)) (1 + n) 0) (prefix_len-map p xs)

  pub list_any-map : (p : Y → Bool) (xs : List X) → list_any p (map h xs) ≡ list_any (λ x. p (h x)) xs
  list_any-map p [] = refl
  list_any-map p (x ∷ xs) = ap (λ b. p (h x) || b) (list_any-map p xs)

  pub position-map : (p : Y → Bool) (xs : List X) → position p (map h xs) ≡ position (λ x. p (h x)) xs
  position-map p xs =
      ap₂ (λ n m. cond (nat_lt n m) (Some n) None) (prefix_len-map (λ y. not (p y)) xs) (length-map xs h)

module _ {V : Type 0} (bytes : V → List ℕ) where
  abbrev name_of : V → Name
  name_of v = record { bytes = bytes v }

  -- a name that is there is added for nothing
  pub known : (name : List ℕ) (vs : List V) → list_any (λ v. bytes_eq name (bytes v)) vs ≡ true
      → map name_of vs ≡ with_name (map name_of vs) name
  known name vs is = rw (list_any-map name_of (is_called name) vs, is) refl

  -- a new one stands behind all others
  pub added : (name : List ℕ) (v : V) (vs : List V) → bytes v ≡ name → list_any (λ w. bytes_eq name (bytes w)) vs ≡ false
      → map name_of (vs ++ v ∷ []) ≡ with_name (map name_of vs) name
  added name v vs same is =
      rw (list_any-map name_of (is_called name) vs, is)
      (map-append name_of vs (v ∷ []) ∙ ap (λ n. map name_of vs ++ record { bytes = n } ∷ []) same)

  -- the same where the list grew by a new one alone
  pub inserted : (name : List ℕ) (v : V) (vs ws : List V)
      → ws ≡ cond (list_any (λ w. bytes_eq (bytes v) (bytes w)) vs) vs (vs ++ v ∷ []) → bytes v ≡ name
      → list_any (λ w. bytes_eq name (bytes w)) vs ≡ false → map name_of ws ≡ with_name (map name_of vs) name
  inserted name v vs ws grew same absent =
      let none = subst (λ (n : List ℕ). list_any (λ w. bytes_eq n (bytes w)) vs ≡ false) (sym same) absent in
      ap (map name_of) (grew ∙ cond-false _ vs (vs ++ v ∷ []) none) ∙ added name v vs same absent

-- ---- a name has a number where it is there

shorter : {A : Type 0} (p : A → Bool) (xs : List A) → nat_lt (prefix_len (λ x. not (p x)) xs) (length xs) ≡ list_any p xs
shorter p [] = refl
shorter p (x ∷ xs) = go (p x) refl (shorter p xs)
  where
    n : ℕ
    n = prefix_len (λ y. not (p y)) xs

    more : (b : Bool) → nat_lt n (length xs) ≡ b → nat_lt (1 + n) (suc (length xs)) ≡ b
    more true is = lt-ltb (1 + n) (suc (length xs)) (omega (arith, ltb-true n (length xs) is))
    more false is = le-ltb (1 + n) (suc (length xs)) (omega (arith, ltb-false n (length xs) is))

    go : (d : Bool) → p x ≡ d → nat_lt n (length xs) ≡ list_any p xs
        → nat_lt (cond (not (p x)) (1 + n) 0) (suc (length xs)) ≡ p x || list_any p xs
    go true e is = rw e (lt-ltb 0 (suc (length xs)) (omega arith))
    go false e is = rw e (more (list_any p xs) is)

placed : {A : Type 0} (p : A → Bool) (xs : List A) → is_some (position p xs) ≡ list_any p xs
placed p xs = go (nat_lt (prefix_len (λ x. not (p x)) xs) (length xs)) refl ∙ shorter p xs
  where
    go : (d : Bool) → nat_lt (prefix_len (λ x. not (p x)) xs) (length xs) ≡ d → is_some (position p xs) ≡ nat_lt (prefix_len (λ x. not (p x)) xs) (length xs)
    go true e = rw e refl
    go false e = rw e refl

-- a name has a number exactly where it is among the names
pub numbered_any : (bytes : List ℕ) (names : List Name) → is_some (number_of bytes names) ≡ list_any (is_called bytes) names
unfolding number_of
numbered_any bytes names = placed (is_called bytes) names

-- a name that is not there comes behind the others
pub new_behind : (names : List Name) (name : List ℕ) → list_any (is_called name) names ≡ false
    → with_name names name ≡ names ++ record { bytes = name } ∷ []
new_behind names name absent = rw absent refl
