-- A settled tree without an open place is empty.
use Rattle.std.specs.Prelude.{◌≡◌, ℕ, ◌<◌, ◌≤◌, length, List, [], ◌∷◌, ◌++◌, Bool, true, false, refl, ◌⊎◌}
use Rattle.std.proofs.Common.{zero, suc, ap, arith, inl, inr}
use Rattle.elan_tree.specs.Tree.{Tree, Item, Open, Cat, First, Then, Trees, none, more, Arms, no_arm, arm}
use Rattle.elan_tree.specs.Places.{places, all_places, arm_places}
use Rattle.elan_tree.specs.Moves.{State, move, release_root, release_first, stop, cut_here, Move, single, drop_front, no_arms, over_empty, commit, cuts, push, resume, in_cat, in_first, in_then, splice, here, arm_here}
use Rattle.elan_tree.specs.Normal.{NoGrow, AnyResume, IsSettled}

-- what stands in front of a tree without an open place: nothing, an item, or a step
data Front {I O K : Type 0} : Tree I O K → Type 0 where
  gone : Front (Cat none)
  item : {i : I} → Front (Item i)
  first_item : {i : I} {ts : Trees I O K} → Front (Cat (more (Item i) ts))
  steps : {t u : Tree I O K} → Move NoGrow AnyResume t u → Front t

left_nil : {A : Type 0} (xs ys : List A) → xs ++ ys ≡ [] → xs ≡ []
left_nil [] ys e = refl
left_nil (x ∷ xs) ys e = absurd (cc e)

below_or_at : (m n : ℕ) → m ≤ n → (m < n) ⊎ (m ≡ n)
below_or_at zero zero h = inr refl
below_or_at zero (suc n) h = inl (omega arith)
below_or_at (suc m) zero h = absurd (omega arith)
below_or_at (suc m) (suc n) h = elim (below_or_at m n (omega arith)) [ inl lt ↦ inl (omega arith) | inr e ↦ inr (ap suc e) ]

module _ {I O K : Type 0} where
  cat_front : (t : Tree I O K) (ts : Trees I O K) → Front t → Front (Cat (more t ts))
  cat_front t ts gone = steps (in_cat splice)
  cat_front t ts item = first_item
  cat_front t ts first_item = steps (in_cat splice)
  cat_front t ts (steps m) = steps (in_cat (here m))

  arm_front : (one : Bool) (t : Tree I O K) (k : K) (arms : Arms I O K) → Front t → Front (First one (arm t k arms))
  arm_front one t k arms gone = steps drop_front
  arm_front one t k arms item = steps (commit refl)
  arm_front one t k arms first_item = steps (commit refl)
  arm_front one t k arms (steps m) = steps (in_first (arm_here m))

  cut_front : (i : I) (ts : Trees I O K) (k : K) → Front (Then true (Cat (more (Item i) ts)) k)
  cut_front i none k = steps (in_then single)
  cut_front i (more t ts) k = steps (cuts (cut_here refl))

  then_front : (one : Bool) (t : Tree I O K) (k : K) → Front t → Front (Then one t k)
  then_front one t k gone = steps over_empty
  then_front one t k item = steps (resume {t = Cat none} tt)
  then_front true t k (first_item {i = i} {ts = ts}) = cut_front i ts k
  then_front false t k first_item = steps push
  then_front one t k (steps m) = steps (in_then m)

  front : (t : Tree I O K) → places t ≡ [] → Front t
  front (Item i) e = item
  front (Open o) e = absurd (cc e)
  front (Cat none) e = gone
  front (Cat (more t ts)) e = cat_front t ts (front t (left_nil (places t) (all_places ts) e))
  front (First one no_arm) e = steps no_arms
  front (First one (arm t k arms)) e = arm_front one t k arms (front t (left_nil (places t) (arm_places arms) e))
  front (Then one t k) e = then_front one t k (front t e)

  by_front : (limit : ℕ) (rs : List I) (t : Tree I O K) → IsSettled limit record { released = rs; tree = t } → (length rs < limit) ⊎ (length rs ≡ limit) → Front t → t ≡ Cat none
  by_front limit rs t settled at_limit gone = refl
  by_front limit rs t settled (inl room) item = absurd (settled _ (release_root room))
  by_front limit rs t settled (inr full) item = absurd (settled _ (stop full (λ e. cc e)))
  by_front limit rs t settled (inl room) first_item = absurd (settled _ (release_first room))
  by_front limit rs t settled (inr full) first_item = absurd (settled _ (stop full (λ e. cc e)))
  by_front limit rs t settled at_limit (steps m) = absurd (settled _ (move m))

  pub settled_empty : (limit : ℕ) (s : State I O K) → length s.released ≤ limit → IsSettled limit s → places s.tree ≡ [] → s.tree ≡ Cat none
  settled_empty limit s within settled no_place = by_front limit s.released s.tree settled (below_or_at (length s.released) limit within) (front s.tree no_place)
