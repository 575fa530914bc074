-- Lists: what holds of each item and of each two, and what stands in a list.
use Rattle.std.proofs.Common.{◌≡◌, refl, sym, ap, ◌∙◌, subst, zero, suc, ◌⊎◌, inl, inr, Bool, true, false, cond, List, [], ◌∷◌, ◌++◌, map, All, AllPairs, Contains, filter, flat_map, arith}
use Rattle.std.proofs.lemmas.List.Kept.{AllPairs-cons}

-- P of each
abbrev pub AllOf : {X : Type 0} → (X → Type 0) → List X → Type 0
AllOf P [] = Unit {0}
AllOf P (x ∷ xs) = P x × AllOf P xs

-- R of each and each later one
abbrev pub Pairs : {X : Type 0} → (X → X → Type 0) → List X → Type 0
Pairs R [] = Unit {0}
Pairs R (x ∷ xs) = AllOf (R x) xs × Pairs R xs

-- x is one of them
abbrev pub In : {X : Type 0} → X → List X → Type 0
In x [] = ⊥
In x (y ∷ ys) = (x ≡ y) ⊎ In x ys

-- ---- by place and by recursion

module _ {X : Type 0} where
  pub in_of_contains : (xs : List X) (x : X) → Contains xs x → In x xs
  in_of_contains [] x (k, within, is) = absurd (omega arith)
  in_of_contains (y ∷ xs) x (zero, within, is) = inl (sym is)
  in_of_contains (y ∷ xs) x (suc k, within, is) = inr (in_of_contains xs x (k, omega arith, is))

  pub contains_of_in : (xs : List X) (x : X) → In x xs → Contains xs x
  contains_of_in [] x i = elim i [ ]
  contains_of_in (y ∷ xs) x (inl e) = (0, omega arith, sym e)
  contains_of_in (y ∷ xs) x (inr h) = let c : Contains xs x = contains_of_in xs x h in (suc c.0, omega arith, c.2)

  pub all_of : (P : X → Type 0) (xs : List X) → All P xs → AllOf P xs
  all_of P [] h = tt
  all_of P (x ∷ xs) h = (h 0 x (omega arith), all_of P xs (λ k d within. h (suc k) d (omega arith)))

  pub all_from : (P : X → Type 0) (xs : List X) → AllOf P xs → All P xs
  all_from P [] h k d within = absurd (omega arith)
  all_from P (x ∷ xs) h zero d within = h.0
  all_from P (x ∷ xs) h (suc k) d within = all_from P xs h.1 k d (omega arith)

  pub pairs_of : (R : X → X → Type 0) (xs : List X) → AllPairs R xs → Pairs R xs
  pairs_of R [] h = tt
  pairs_of R (x ∷ xs) h = (all_of (R x) xs (λ k d within. h 0 (suc k) d (omega arith) (omega arith)), pairs_of R xs (λ i j d lt within. h (suc i) (suc j) d (omega arith) (omega arith)))

  pub pairs_from : (R : X → X → Type 0) (xs : List X) → Pairs R xs → AllPairs R xs
  pairs_from R [] h = λ i j d lt within. absurd (omega arith)
  pairs_from R (x ∷ xs) h = AllPairs-cons R x xs (all_from (R x) xs h.0) (pairs_from R xs h.1)

-- ---- what stands in a list

module _ {X : Type 0} where
  pub all_both : (P Q : X → Type 0) (xs : List X) → AllOf P xs → AllOf Q xs → AllOf (λ x. P x × Q x) xs
  all_both P Q [] h k = tt
  all_both P Q (x ∷ xs) h k = ((h.0, k.0), all_both P Q xs h.1 k.1)

  pub all_append : (P : X → Type 0) (xs ys : List X) → AllOf P xs → AllOf P ys → AllOf P (xs ++ ys)
  all_append P [] ys h k = k
  all_append P (x ∷ xs) ys h k = (h.0, all_append P xs ys h.1 k)

  pub in_all : (P : X → Type 0) (xs : List X) (x : X) → AllOf P xs → In x xs → P x
  in_all P [] x h i = elim i [ ]
  in_all P (y ∷ xs) x h (inl e) = subst P (sym e) h.0
  in_all P (y ∷ xs) x h (inr i) = in_all P xs x h.1 i

  pub all_in : (P : X → Type 0) (xs : List X) → ((x : X) → In x xs → P x) → AllOf P xs
  all_in P [] h = tt
  all_in P (x ∷ xs) h = (h x (inl refl), all_in P xs (λ y i. h y (inr i)))

  pub all_map : (P Q : X → Type 0) → ((x : X) → P x → Q x) → (xs : List X) → AllOf P xs → AllOf Q xs
  all_map P Q f [] h = tt
  all_map P Q f (x ∷ xs) h = (f x h.0, all_map P Q f xs h.1)

  pub in_left : (xs ys : List X) (x : X) → In x xs → In x (xs ++ ys)
  in_left [] ys x i = elim i [ ]
  in_left (y ∷ xs) ys x (inl e) = inl e
  in_left (y ∷ xs) ys x (inr i) = inr (in_left xs ys x i)

  pub in_right : (xs ys : List X) (x : X) → In x ys → In x (xs ++ ys)
  in_right [] ys x i = i
  in_right (y ∷ xs) ys x i = inr (in_right xs ys x i)

  pub in_either : (xs ys : List X) (x : X) → In x (xs ++ ys) → In x xs ⊎ In x ys
  in_either [] ys x i = inr i
  in_either (y ∷ xs) ys x (inl e) = inl (inl e)
  in_either (y ∷ xs) ys x (inr i) = later (in_either xs ys x i)
    where
      later : In x xs ⊎ In x ys → In x (y ∷ xs) ⊎ In x ys
      later (inl j) = inl (inr j)
      later (inr j) = inr j

  filter_cons : (p : X → Bool) (y x : X) (ys : List X) (b : Bool) → p y ≡ b → In x (cond b (y ∷ ys) ys) → ((x ≡ y) × (p x ≡ true)) ⊎ In x ys
  filter_cons p y x ys true is (inl e) = inl (e, ap p e ∙ is)
  filter_cons p y x ys true is (inr i) = inr i
  filter_cons p y x ys false is i = inr i

  pub in_filter : (p : X → Bool) (xs : List X) (x : X) → In x (filter p xs) → In x xs × (p x ≡ true)
  in_filter p [] x i = elim i [ ]
  in_filter p (y ∷ xs) x i = go (λ j. in_filter p xs x j) (filter_cons p y x (filter p xs) (p y) refl i)
    where
      go : (In x (filter p xs) → In x xs × (p x ≡ true)) → ((x ≡ y) × (p x ≡ true)) ⊎ In x (filter p xs) → In x (y ∷ xs) × (p x ≡ true)
      go f (inl h) = (inl h.0, h.1)
      go f (inr j) = (inr (f j).0, (f j).1)

  kept_first : (p : X → Bool) (y x : X) (ys : List X) (b : Bool) → p y ≡ b → x ≡ y → p x ≡ true → In x (cond b (y ∷ ys) ys)
  kept_first p y x ys true is e h = inl e
  kept_first p y x ys false is e h = absurd (no (sym h ∙ ap p e ∙ is))
    where
      no : true ≡ false → ⊥
      no f = cc

  kept_later : (y x : X) (ys : List X) (b : Bool) → In x ys → In x (cond b (y ∷ ys) ys)
  kept_later y x ys true i = inr i
  kept_later y x ys false i = i

  pub in_kept : (p : X → Bool) (xs : List X) (x : X) → In x xs → p x ≡ true → In x (filter p xs)
  in_kept p [] x i h = elim i [ ]
  in_kept p (y ∷ xs) x (inl e) h = kept_first p y x (filter p xs) (p y) refl e h
  in_kept p (y ∷ xs) x (inr i) h = kept_later y x (filter p xs) (p y) (in_kept p xs x i h)

module _ {X Y : Type 0} where
  pub in_map : (f : X → Y) (xs : List X) (y : Y) → In y (map f xs) → (x : X) × In x xs × (y ≡ f x)
  in_map f [] y i = elim i [ ]
  in_map f (x ∷ xs) y (inl e) = (x, inl refl, e)
  in_map f (x ∷ xs) y (inr i) = let h : (x : X) × In x xs × (y ≡ f x) = in_map f xs y i in (h.0, inr h.1, h.2)

  pub in_mapped : (f : X → Y) (xs : List X) (x : X) → In x xs → In (f x) (map f xs)
  in_mapped f [] x i = elim i [ ]
  in_mapped f (y ∷ xs) x (inl e) = inl (ap f e)
  in_mapped f (y ∷ xs) x (inr i) = inr (in_mapped f xs x i)

  pub in_flat : (f : X → List Y) (xs : List X) (y : Y) → In y (flat_map f xs) → (x : X) × In x xs × In y (f x)
  in_flat f [] y i = elim i [ ]
  in_flat f (x ∷ xs) y i = go (λ j. in_flat f xs y j) (in_either (f x) (flat_map f xs) y i)
    where
      go : (In y (flat_map f xs) → (z : X) × In z xs × In y (f z)) → In y (f x) ⊎ In y (flat_map f xs) → (z : X) × In z (x ∷ xs) × In y (f z)
      go g (inl j) = (x, inl refl, j)
      go g (inr j) = ((g j).0, inr (g j).1, (g j).2)

  pub in_flattened : (f : X → List Y) (xs : List X) (x : X) (y : Y) → In x xs → In y (f x) → In y (flat_map f xs)
  in_flattened f [] x y i j = elim i [ ]
  in_flattened f (z ∷ xs) x y (inl e) j = in_left (f z) (flat_map f xs) y (subst (λ w. In y (f w)) e j)
  in_flattened f (z ∷ xs) x y (inr i) j = in_right (f z) (flat_map f xs) y (in_flattened f xs x y i j)

  pub all_flat : (P : Y → Type 0) (f : X → List Y) (xs : List X) → AllOf (λ x. AllOf P (f x)) xs → AllOf P (flat_map f xs)
  all_flat P f [] h = tt
  all_flat P f (x ∷ xs) h = all_append P (f x) (flat_map f xs) h.0 (all_flat P f xs h.1)

  pub all_mapped : (P : Y → Type 0) (f : X → Y) (xs : List X) → AllOf (λ x. P (f x)) xs → AllOf P (map f xs)
  all_mapped P f [] h = tt
  all_mapped P f (x ∷ xs) h = (h.0, all_mapped P f xs h.1)

pub mapped_itself : {X : Type 0} (f : X → X) (xs : List X) → AllOf (λ x. f x ≡ x) xs → map f xs ≡ xs
mapped_itself f [] h = refl
mapped_itself f (x ∷ xs) h = ap (λ y. y ∷ map f xs) h.0 ∙ ap (λ ys. x ∷ ys) (mapped_itself f xs h.1)
