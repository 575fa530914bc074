-- Releasing the items in front of a settled tree.
use Rattle.std.specs.Prelude.{◌≡◌, ◌≢◌, ℕ, ◌<◌, ◌≤◌, length, List, [], ◌∷◌, ◌++◌, refl, ◌⊎◌}
use Rattle.std.proofs.Common.{sym, subst, arith, inl, inr}
use Rattle.elan_tree.specs.Sense.{Sense}
use Rattle.elan_tree.specs.Tree.{Tree, Item, Open, Cat, First, Then, Trees, none, more}
use Rattle.elan_tree.specs.Moves.{State, Step, move, release_root, release_first, stop, Star, done, next}
use Rattle.elan_tree.specs.Normal.{Normal, NoGrow, AnyResume}
use Rattle.elan_tree.specs.Kids.{joined}
use Rattle.elan_tree.specs.Settling.{Makes, Settles}
use Rattle.elan_tree.specs.Fronts.{Gives, NotFirst}
use Rattle.elan_tree.specs.Marks.{Place}
use Rattle.elan_tree.proofs.Stars.{star_one, star_trans, star_map}
use Rattle.elan_tree.proofs.Stuck.{stuck}
use Rattle.elan_tree.proofs.Tidying.{joined_settles, joined_normal}

abbrev at : {I O K : Type 0} → List I → Tree I O K → State I O K
at rs t = record { released = rs; tree = t }

module _ {I O K : Type 0} where
  pub gives_normal : (t u : Tree I O K) (i : I) → Normal t → Gives t i u → Normal u
  gives_normal (Item j) u i n h = let P : Tree I O K → Type 0 = λ x. Normal x in subst P (sym h.1) (tt, tt)
  gives_normal (Open o) u i n h = absurd h
  gives_normal (Cat none) u i n h = absurd h
  gives_normal (Cat (more (Item j) ts)) u i n h = let P : Tree I O K → Type 0 = λ x. Normal x in subst P (sym h.1) (joined_normal ts n.1.2)
  gives_normal (Cat (more (Open o) ts)) u i n h = absurd h
  gives_normal (Cat (more (Cat us) ts)) u i n h = absurd h
  gives_normal (Cat (more (First one arms) ts)) u i n h = absurd h
  gives_normal (Cat (more (Then one t k) ts)) u i n h = absurd h
  gives_normal (First one arms) u i n h = absurd h
  gives_normal (Then one t k) u i n h = absurd h

  no_growth : (o : O) (t : Tree I O K) → NoGrow o t → ⊥
  no_growth o t h = h

  -- with room, and no item in front, nothing but growing applies
  pub settled_open : (limit : ℕ) (s u : State I O K) → Normal s.tree → NotFirst s.tree → length s.released < limit → Step NoGrow AnyResume limit s u → ⊥
  settled_open limit s u n f room (move m) = stuck NoGrow AnyResume no_growth m n
  settled_open limit s u n f room (release_root lt) = f
  settled_open limit s u n f room (release_first lt) = f
  settled_open limit s u n f room (stop full _) = omega arith

  -- at the limit, the empty tree is settled
  pub settled_full : (limit : ℕ) (s u : State I O K) → s.tree ≡ Cat none → limit ≤ length s.released → Step NoGrow AnyResume limit s u → ⊥
  settled_full limit s u e full (move {t = t} m) = let P : Tree I O K → Type 0 = λ x. Normal x in stuck NoGrow AnyResume no_growth m (subst P (sym e) (tt, tt))
  settled_full limit s u e full (release_root lt) = omega arith
  settled_full limit s u e full (release_first lt) = omega arith
  settled_full limit s u e full (stop _ some) = some e

  pub empty_or_not : (t : Tree I O K) → (t ≡ Cat none) ⊎ (t ≢ Cat none)
  empty_or_not (Item i) = inr (λ e. cc e)
  empty_or_not (Open o) = inr (λ e. cc e)
  empty_or_not (Cat none) = inl refl
  empty_or_not (Cat (more t ts)) = inr (λ e. cc e)
  empty_or_not (First one arms) = inr (λ e. cc e)
  empty_or_not (Then one t k) = inr (λ e. cc e)

module _ {B I K M : Type 0} (w : Sense B I K M) (kin limit : ℕ) where
  abbrev pub Steps : State I (Place B) K → State I (Place B) K → Type 0
  Steps s t = Star (Step NoGrow (Makes w kin) limit) s t

  pub settles_steps : (rs : List I) {t u : Tree I (Place B) K} → Settles w kin t u → Steps (at rs t) (at rs u)
  settles_steps rs s = star_map (at rs) (λ x y m. move m) s

  from_item : (rs : List I) (i j : I) (u : Tree I (Place B) K) → length rs < limit → j ≡ i → u ≡ Cat none → Steps (at rs (Item j)) (at (rs ++ i ∷ []) u)
  from_item rs i j u lt e f =
      let P : Tree I (Place B) K → Type 0 = λ x. Steps (at rs (Item j)) (at (rs ++ i ∷ []) x) in
      let Q : I → Type 0 = λ x. Steps (at rs (Item j)) (at (rs ++ x ∷ []) (Cat none)) in
      subst P (sym f) (subst Q e (star_one (release_root lt)))

  from_first : (rs : List I) (i j : I) (ts : Trees I (Place B) K) (u : Tree I (Place B) K) → length rs < limit → j ≡ i → u ≡ joined ts
      → Steps (at rs (Cat (more (Item j) ts))) (at (rs ++ i ∷ []) u)
  from_first rs i j ts u lt e f =
      let P : Tree I (Place B) K → Type 0 = λ x. Steps (at rs (Cat (more (Item j) ts))) (at (rs ++ i ∷ []) x) in
      let Q : I → Type 0 = λ x. Steps (at rs (Cat (more (Item j) ts))) (at (rs ++ x ∷ []) (joined ts)) in
      subst P (sym f) (subst Q e (next (release_first lt) (settles_steps (rs ++ j ∷ []) (joined_settles w kin ts))))

  pub gives_steps : (rs : List I) (t u : Tree I (Place B) K) (i : I) → length rs < limit → Gives t i u → Steps (at rs t) (at (rs ++ i ∷ []) u)
  gives_steps rs (Item j) u i lt h = from_item rs i j u lt h.0 h.1
  gives_steps rs (Open o) u i lt h = absurd h
  gives_steps rs (Cat none) u i lt h = absurd h
  gives_steps rs (Cat (more (Item j) ts)) u i lt h = from_first rs i j ts u lt h.0 h.1
  gives_steps rs (Cat (more (Open o) ts)) u i lt h = absurd h
  gives_steps rs (Cat (more (Cat us) ts)) u i lt h = absurd h
  gives_steps rs (Cat (more (First one arms) ts)) u i lt h = absurd h
  gives_steps rs (Cat (more (Then one t k) ts)) u i lt h = absurd h
  gives_steps rs (First one arms) u i lt h = absurd h
  gives_steps rs (Then one t k) u i lt h = absurd h

  -- one more item is released
  pub released_more : (all : State I (Place B) K) (rs new : List I) (t u v : Tree I (Place B) K) (i : I) → Steps all (at rs t) → length rs < limit → Gives t i u → new ≡ rs ++ i ∷ []
      → Steps all (at new u)
  released_more all rs new t u v i before lt h e =
      let P : List I → Type 0 = λ x. Steps all (at x u) in
      subst P (sym e) (star_trans before (gives_steps rs t u i lt h))

  stop_at : (rs : List I) (t : Tree I (Place B) K) → length rs ≡ limit → (t ≡ Cat none) ⊎ (t ≢ Cat none) → Steps (at rs t) (at rs (Cat none))
  stop_at rs t full (inl e) = let P : Tree I (Place B) K → Type 0 = λ x. Steps (at rs t) (at rs x) in subst P e done
  stop_at rs t full (inr some) = star_one (stop full some)

  -- at the limit the tree goes
  pub stopped : (all : State I (Place B) K) (rs : List I) (t u : Tree I (Place B) K) → Steps all (at rs t) → length rs ≡ limit → u ≡ Cat none → Steps all (at rs u)
  stopped all rs t u before full e =
      let P : Tree I (Place B) K → Type 0 = λ x. Steps all (at rs x) in
      subst P (sym e) (star_trans before (stop_at rs t full (empty_or_not t)))
