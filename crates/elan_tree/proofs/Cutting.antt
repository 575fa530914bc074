-- Cutting under a continuation that keeps the first item.
use Rattle.std.specs.Prelude.{◌≡◌, ℕ, length, List, [], ◌∷◌, true, false, refl, ◌⊎◌}
use Rattle.std.proofs.Common.{sym, ◌∙◌, ap, subst, inl, inr, arith}
use Rattle.elan_tree.specs.Sense.{Sense}
use Rattle.elan_tree.specs.Tree.{Tree, Item, Open, Cat, First, Then, Trees, none, more, trees}
use Rattle.elan_tree.specs.Listing.{sure}
use Rattle.elan_tree.specs.Moves.{done, next, single, in_then, push, pushed, cuts, Cuts, cut_here, cut_later}
use Rattle.elan_tree.specs.Normal.{Flats, NotEmpty, NotOne, SureLast, AllWait}
use Rattle.elan_tree.specs.Kids.{cut_kids, count}
use Rattle.elan_tree.proofs.KidsLemmas.{count-trees}
use Rattle.elan_tree.specs.Settling.{Fits, Settles, SettlesAll}
use Rattle.elan_tree.specs.Marks.{Place}
use Rattle.elan_tree.proofs.Stars.{star_one, star_trans, stars_cat}

module _ {I O K : Type 0} where
  next_cut : (t : Tree I O K) (us : Trees I O K) → sure t ≡ false → Cuts us (cut_kids us) ⊎ (us ≡ cut_kids us)
      → Cuts (more t us) (more t (cut_kids us)) ⊎ (more t us ≡ more t (cut_kids us))
  next_cut t us s (inl c) = inl (cut_later s c)
  next_cut t us s (inr e) = inr (ap (more t) e)

  -- children without a `Cat` are cut by one step, or there is nothing to cut
  pub cut_step : (ts : Trees I O K) → Flats ts → Cuts ts (cut_kids ts) ⊎ (ts ≡ cut_kids ts)
  cut_step none h = inr refl
  cut_step (more (Item i) none) h = inr refl
  cut_step (more (Item i) (more u us)) h = inl (cut_here refl)
  cut_step (more (Open o) us) h = next_cut (Open o) us refl (cut_step us h.2)
  cut_step (more (Cat ts) us) h = absurd h.0
  cut_step (more (First one arms) us) h = next_cut (First one arms) us refl (cut_step us h.2)
  cut_step (more (Then one t k) us) h = next_cut (Then one t k) us refl (cut_step us h.2)

  pub cut_flats : (ts : Trees I O K) → Flats ts → Flats (cut_kids ts)
  cut_flats none h = tt
  cut_flats (more (Item i) us) h = (tt, tt, tt)
  cut_flats (more (Open o) us) h = (tt, tt, cut_flats us h.2)
  cut_flats (more (Cat ts) us) h = absurd h.0
  cut_flats (more (First one arms) us) h = (tt, h.1, cut_flats us h.2)
  cut_flats (more (Then one t k) us) h = (tt, h.1, cut_flats us h.2)

  sure_next : (t : Tree I O K) (us : Trees I O K) → sure t ≡ false → SureLast us → SureLast (more t us)
  sure_next t none s h = tt
  sure_next t (more u us) s h = (s, h)

  pub cut_last : (ts : Trees I O K) → Flats ts → SureLast (cut_kids ts)
  cut_last none h = tt
  cut_last (more (Item i) us) h = tt
  cut_last (more (Open o) us) h = sure_next (Open o) (cut_kids us) refl (cut_last us h.2)
  cut_last (more (Cat ts) us) h = absurd h.0
  cut_last (more (First one arms) us) h = sure_next (First one arms) (cut_kids us) refl (cut_last us h.2)
  cut_last (more (Then one t k) us) h = sure_next (Then one t k) (cut_kids us) refl (cut_last us h.2)

  pub cut_some : (ts : Trees I O K) → NotEmpty (Cat ts) → NotEmpty (Cat (cut_kids ts))
  cut_some none h = absurd h
  cut_some (more (Item i) us) h = tt
  cut_some (more (Open o) us) h = tt
  cut_some (more (Cat ts) us) h = tt
  cut_some (more (First one arms) us) h = tt
  cut_some (more (Then one t k) us) h = tt

module _ {B I K M : Type 0} (w : Sense B I K M) (kin : ℕ) where
  by_cut : (k : K) (ts us : Trees I (Place B) K) → Cuts ts us ⊎ (ts ≡ us) → Settles w kin (Then true (Cat ts) k) (Then true (Cat us) k)
  by_cut k ts us (inl c) = star_one (cuts c)
  by_cut k ts us (inr e) =
      let P : Trees I (Place B) K → Type 0 = λ x. Settles w kin (Then true (Cat ts) k) (Then true (Cat x) k) in
      subst P e done

  -- what cutting leaves
  pub cut_settles : (k : K) (ts : Trees I (Place B) K) → Flats ts → Settles w kin (Then true (Cat ts) k) (Then true (Cat (cut_kids ts)) k)
  cut_settles k ts h = by_cut k ts (cut_kids ts) (cut_step ts h)

  -- and where one child is left, that child stands alone
  pub cut_single : (k : K) (ts : Trees I (Place B) K) (t u : Tree I (Place B) K) → Flats ts → cut_kids ts ≡ more t none → Settles w kin (Then true t k) u
      → Settles w kin (Then true (Cat ts) k) u
  cut_single k ts t u h e s =
      let P : Trees I (Place B) K → Type 0 = λ x. Settles w kin (Then true (Cat ts) k) (Then true (Cat x) k) in
      star_trans (subst P e (cut_settles k ts h)) (next (in_then single) s)

  -- where no child or several are left
  pub cut_several : (k : K) (ts us : Trees I (Place B) K) → Flats ts → us ≡ cut_kids ts → Settles w kin (Then true (Cat ts) k) (Then true (Cat us) k)
  cut_several k ts us h e =
      let P : Trees I (Place B) K → Type 0 = λ x. Settles w kin (Then true (Cat ts) k) (Then true (Cat x) k) in
      subst P (sym e) (cut_settles k ts h)

module _ {I O K : Type 0} where
  pub several_normal : (ts us : Trees I O K) → Flats ts → NotEmpty (Cat ts) → us ≡ cut_kids ts → NotOne us → SureLast us × NotEmpty (Cat us) × (NotOne us × Flats us)
  several_normal ts us h some e several =
      let P : Trees I O K → Type 0 = λ x. SureLast x in
      let Q : Trees I O K → Type 0 = λ x. NotEmpty (Cat x) in
      let R : Trees I O K → Type 0 = λ x. Flats x in
      (subst P (sym e) (cut_last ts h), subst Q (sym e) (cut_some ts some), (several, subst R (sym e) (cut_flats ts h)))

  pub not_one_same : (xs ys : List (Tree I O K)) → xs ≡ ys → NotOne (trees ys) → NotOne (trees xs)
  not_one_same xs ys e h =
      let P : List (Tree I O K) → Type 0 = λ l. NotOne (trees l) in
      subst P (sym e) h

  pub not_one_long : (xs ys : List (Tree I O K)) → length xs ≡ length ys → NotOne (trees ys) → NotOne (trees xs)
  not_one_long [] ys e h = tt
  not_one_long (x ∷ y ∷ xs) ys e h = tt
  not_one_long (x ∷ []) [] e h = absurd (omega arith)
  not_one_long (x ∷ []) (y ∷ []) e h = absurd h
  not_one_long (x ∷ []) (y ∷ z ∷ ys) e h = absurd (omega arith)

  -- each child waits under its continuation
  pub pushed_wait : (k : K) (ts : Trees I O K) → Flats ts → AllWait (pushed k ts)
  pushed_wait k none h = tt
  pushed_wait k (more t ts) h = ((h.0, h.1), pushed_wait k ts h.2)

module _ {B I K M : Type 0} (w : Sense B I K M) (kin : ℕ) where
  pub pushed_fit : (k : K) (ts : Trees I (Place B) K) → w.kin_of_then k ≡ kin → Fits w kin ts → Fits w kin (pushed k ts)
  pushed_fit k none e h = tt
  pushed_fit k (more t ts) e h = ((h.0, e), pushed_fit k ts e h.1)

  pub pushed_settles : (k : K) (ts us : Trees I (Place B) K) → SettlesAll w kin (pushed k ts) us → Settles w kin (Then false (Cat ts) k) (Cat us)
  pushed_settles k ts us s = next push (stars_cat s)

module _ {I O K : Type 0} where
  pushed_count : (k : K) (ts : Trees I O K) → count (pushed k ts) ≡ count ts
  pushed_count k none = refl
  pushed_count k (more t ts) = omega (arith, pushed_count k ts)

  pub pushed_length : (k : K) (xs ys us : List (Tree I O K)) → length xs ≡ length ys → trees ys ≡ pushed k (trees us) → length xs ≡ length us
  pushed_length k xs ys us e f =
      e ∙ sym (count-trees ys) ∙ ap count f ∙ pushed_count k (trees us) ∙ count-trees us
