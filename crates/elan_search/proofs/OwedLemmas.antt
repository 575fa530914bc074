-- What comes after an item in a list that ascends.
use Rattle.std.proofs.Common.{◌≡◌, refl, sym, ap, ◌∙◌, inl, inr, false, cond, List, [], ◌∷◌, is_gt, is_lt, filter}
use Rattle.std.specs.declared.cmp.Ordering.{Ordering}
use Rattle.std.specs.declared.cmp.Ordering.TheVariants.{Less, Equal, Greater}
use Rattle.std.specs.Ordering.{ordering_reverse}
use Rattle.std.specs.Cmp.{IsTotalOrder}
use Rattle.elan_terms.proofs.Lists.{AllOf, Pairs, In, in_all}
use Rattle.elan_search.proofs.PlaceLemmas.{never, equal_not_less}

module _ {K : Type 0} (compare : K → K → Ordering) (total : IsTotalOrder compare) (itself : (x : K) → compare x x ≡ Equal) where
  -- one stands before the other
  abbrev pub Stands : K → K → Type 0
  Stands t u = compare t u ≡ Less

  -- those that come after an item
  abbrev pub beyond : K → List K → List K
  beyond l = filter (λ a. is_lt (compare l a))

  keeps_all : (l : K) (xs : List K) → AllOf (Stands l) xs → beyond l xs ≡ xs
  keeps_all l [] h = refl
  keeps_all l (x ∷ xs) h = ap (λ o. cond (is_lt o) (x ∷ beyond l xs) (beyond l xs)) h.0 ∙ ap (λ ys. x ∷ ys) (keeps_all l xs h.1)

  before_all : (l m : K) (xs : List K) → Stands l m → AllOf (Stands m) xs → AllOf (Stands l) xs
  before_all l m [] e h = tt
  before_all l m (x ∷ xs) e h = (total.trans l m x e h.0, before_all l m xs e h.1)

  not_lt : (o : Ordering) → (o ≡ Less → ⊥) → is_lt o ≡ false
  not_lt Less f = absurd (f refl)
  not_lt Equal f = refl
  not_lt Greater f = refl

  dropped : (l x : K) (xs : List K) → (Stands l x → ⊥) → beyond l (x ∷ xs) ≡ beyond l xs
  dropped l x xs f = ap (λ b. cond b (x ∷ beyond l xs) (beyond l xs)) (not_lt (compare l x) f)

  taken_first : (l x : K) (xs : List K) → Stands l x → beyond l (x ∷ xs) ≡ x ∷ beyond l xs
  taken_first l x xs e = ap (λ o. cond (is_lt o) (x ∷ beyond l xs) (beyond l xs)) e

  not_itself : (x : K) → Stands x x → ⊥
  not_itself x e = equal_not_less (sym (itself x) ∙ e)

  not_back : (x m : K) → Stands x m → is_gt (compare m x) ≡ false → ⊥
  not_back x m lt le = never (sym (ap is_gt (total.antisymm m x ∙ ap ordering_reverse lt)) ∙ le)

  -- what is beyond an item is the next item, and what is beyond that
  pub beyond_next : (xs : List K) (l m : K) → Pairs Stands xs → In m xs → Stands l m
      → ((a : K) → In a xs → Stands l a → is_gt (compare m a) ≡ false) → beyond l xs ≡ m ∷ beyond m xs
  beyond_next [] l m h i lt least = elim i [ ]
  beyond_next (x ∷ xs) l m h (inl e) lt least =
      let first : Stands l x = ap (compare l) (sym e) ∙ lt in
      taken_first l x xs first ∙ ap (λ ys. x ∷ ys) (keeps_all l xs (before_all l x xs first h.0) ∙ sym (keeps_all x xs h.0))
      ∙ ap (λ ys. x ∷ ys) (sym (dropped x x xs (not_itself x))) ∙ ap (λ y. y ∷ beyond y (x ∷ xs)) (sym e)
  beyond_next (x ∷ xs) l m h (inr i) lt least =
      let earlier : Stands x m = in_all (Stands x) xs m h.0 i in
      dropped l x xs (λ f. not_back x m earlier (least x (inl refl) f))
      ∙ beyond_next xs l m h.1 i lt (λ a j. least a (inr j))
      ∙ ap (λ ys. m ∷ ys) (sym (dropped m x xs (λ f. not_itself x (total.trans x m x earlier f))))

  -- the list is its first item, and what is beyond that
  pub beyond_first : (xs : List K) (m : K) → Pairs Stands xs → In m xs → ((a : K) → In a xs → is_gt (compare m a) ≡ false) → xs ≡ m ∷ beyond m xs
  beyond_first [] m h i least = elim i [ ]
  beyond_first (x ∷ xs) m h (inl e) least =
      ap (λ ys. x ∷ ys) (sym (dropped x x xs (not_itself x) ∙ keeps_all x xs h.0)) ∙ ap (λ y. y ∷ beyond y (x ∷ xs)) (sym e)
  beyond_first (x ∷ xs) m h (inr i) least = absurd (not_back x m (in_all (Stands x) xs m h.0 i) (least x (inl refl)))

  -- where none comes after an item, nothing is beyond it
  pub beyond_none : (xs : List K) (l : K) → ((a : K) → In a xs → Stands l a → ⊥) → beyond l xs ≡ []
  beyond_none [] l f = refl
  beyond_none (x ∷ xs) l f = dropped l x xs (f x (inl refl)) ∙ beyond_none xs l (λ a i. f a (inr i))
