-- Splicing, and the alternatives of a `First`.
use Rattle.std.specs.Prelude.{◌≡◌, ◌≢◌, ℕ, ◌<◌, length, List, [], ◌∷◌, Bool, true, false, refl, remove, Result, Ok, Err, MatchResult, OnOk}
use Rattle.std.proofs.Common.{sym, subst, arith, get_or}
use Rattle.elan_tree.specs.Sense.{Sense}
use Rattle.elan_tree.specs.Tree.{Tree, Item, Open, Cat, First, Then, Trees, none, more, Arms, no_arm, arm}
use Rattle.elan_tree.specs.Shape.{arms_of}
use Rattle.elan_tree.specs.Listing.{sure, is_empty}
use Rattle.elan_tree.specs.Moves.{done, next, single, splice, drop_front, no_arms, commit, join}
use Rattle.elan_tree.specs.Normal.{Normal, Flats, Normals, NormalArms, NotEmpty, NotOne, NotBare}
use Rattle.elan_tree.specs.Kids.{flat, joined, trimmed}
use Rattle.elan_tree.specs.Settling.{Fit, FitArms, Settles, SettlesAll}
use Rattle.elan_tree.specs.Marks.{Place}
use Rattle.elan_tree.specs.declared.node.Arm.{Arm}
use Rattle.elan_tree.proofs.Stars.{star_one, star_trans, stars_cat, stars_later}

module _ {B I K M : Type 0} (w : Sense B I K M) (kin : ℕ) where
  join_later : (ts : Trees I (Place B) K) {us vs : Trees I (Place B) K} → SettlesAll w kin us vs → SettlesAll w kin (join ts us) (join ts vs)
  join_later none s = s
  join_later (more t ts) s = stars_later t (join_later ts s)

  pub flat_settles : (ts : Trees I (Place B) K) → SettlesAll w kin ts (flat ts)
  flat_settles none = done
  flat_settles (more (Item i) us) = stars_later (Item i) (flat_settles us)
  flat_settles (more (Open o) us) = stars_later (Open o) (flat_settles us)
  flat_settles (more (Cat ts) us) = next splice (join_later ts (flat_settles us))
  flat_settles (more (First one arms) us) = stars_later (First one arms) (flat_settles us)
  flat_settles (more (Then one t k) us) = stars_later (Then one t k) (flat_settles us)

  pub joined_settles : (ts : Trees I (Place B) K) → Settles w kin (Cat ts) (joined ts)
  joined_settles none = done
  joined_settles (more t none) = star_one single
  joined_settles (more t (more u ts)) = done

  pub tidy_settles : (ts : Trees I (Place B) K) → Settles w kin (Cat ts) (joined (flat ts))
  tidy_settles ts = star_trans (stars_cat (flat_settles ts)) (joined_settles (flat ts))

  pub trim_settles : (one : Bool) (arms : Arms I (Place B) K) → Settles w kin (First one arms) (First one (trimmed arms))
  trim_settles one no_arm = done
  trim_settles one (arm (Item i) k arms) = done
  trim_settles one (arm (Open o) k arms) = done
  trim_settles one (arm (Cat none) k arms) = next drop_front (trim_settles one arms)
  trim_settles one (arm (Cat (more t ts)) k arms) = done
  trim_settles one (arm (First one' alts) k arms) = done
  trim_settles one (arm (Then one' t l) k arms) = done

module _ {I O K : Type 0} where
  join_flats : (ts us : Trees I O K) → Flats ts → Flats us → Flats (join ts us)
  join_flats none us h k = k
  join_flats (more t ts) us h k = (h.0, h.1, join_flats ts us h.2 k)

  pub flat_flats : (ts : Trees I O K) → Normals ts → Flats (flat ts)
  flat_flats none h = tt
  flat_flats (more (Item i) us) h = (tt, tt, flat_flats us h.1)
  flat_flats (more (Open o) us) h = (tt, tt, flat_flats us h.1)
  flat_flats (more (Cat ts) us) h = join_flats ts (flat us) h.0.1 (flat_flats us h.1)
  flat_flats (more (First one arms) us) h = (tt, h.0, flat_flats us h.1)
  flat_flats (more (Then one t k) us) h = (tt, h.0, flat_flats us h.1)

  pub joined_normal : (ts : Trees I O K) → Flats ts → Normal (joined ts)
  joined_normal none h = (tt, tt)
  joined_normal (more t none) h = h.1
  joined_normal (more t (more u ts)) h = (tt, h)

  pub joined_several : (ts : Trees I O K) → NotOne ts → Cat ts ≡ joined ts
  joined_several none h = refl
  joined_several (more t none) h = absurd h
  joined_several (more t (more u ts)) h = refl

  pub trim_normal : (arms : Arms I O K) → NormalArms arms → NormalArms (trimmed arms)
  trim_normal no_arm h = h
  trim_normal (arm (Item i) k arms) h = h
  trim_normal (arm (Open o) k arms) h = h
  trim_normal (arm (Cat none) k arms) h = trim_normal arms h.1
  trim_normal (arm (Cat (more t ts)) k arms) h = h
  trim_normal (arm (First one' alts) k arms) h = h
  trim_normal (arm (Then one' t l) k arms) h = h

  trim_empty : (t : Tree I O K) (k : K) (arms : Arms I O K) → is_empty t ≡ true → trimmed arms ≡ trimmed (arm t k arms)
  trim_empty (Item i) k arms h = absurd (cc h)
  trim_empty (Open o) k arms h = absurd (cc h)
  trim_empty (Cat none) k arms h = refl
  trim_empty (Cat (more t ts)) k arms h = absurd (cc h)
  trim_empty (First one alts) k arms h = absurd (cc h)
  trim_empty (Then one t l) k arms h = absurd (cc h)

  trim_full : (t : Tree I O K) (k : K) (arms : Arms I O K) → is_empty t ≡ false → arm t k arms ≡ trimmed (arm t k arms)
  trim_full (Item i) k arms h = refl
  trim_full (Open o) k arms h = refl
  trim_full (Cat none) k arms h = absurd (cc h)
  trim_full (Cat (more t ts)) k arms h = refl
  trim_full (First one alts) k arms h = refl
  trim_full (Then one t l) k arms h = refl

  pub trim_next : (xs : List (Arm I O K)) (d : Arm I O K) → 0 < length xs → is_empty (get_or xs 0 d).node.value ≡ true
      → trimmed (arms_of (remove xs 0)) ≡ trimmed (arms_of xs)
  trim_next [] d lt h = absurd (omega arith)
  trim_next (a ∷ xs) d lt h = trim_empty a.node.value a.then (arms_of xs) h

  pub trim_done : (xs : List (Arm I O K)) (d : Arm I O K) → is_empty (get_or xs 0 d).node.value ≡ false → arms_of xs ≡ trimmed (arms_of xs)
  trim_done [] d h = refl
  trim_done (a ∷ xs) d h = trim_full a.node.value a.then (arms_of xs) h

  pub trim_none : (xs : List (Arm I O K)) → length xs ≡ 0 → arms_of xs ≡ trimmed (arms_of xs)
  trim_none [] h = refl
  trim_none (a ∷ xs) h = absurd (omega arith)

-- the first alternative is not empty
abbrev pub Full : {I O K : Type 0} → Arms I O K → Type 0
Full no_arm = Unit {0}
Full (arm t k arms) = NotEmpty t

module _ {I O K : Type 0} where
  pub trimmed_full : (arms : Arms I O K) → Full (trimmed arms)
  trimmed_full no_arm = tt
  trimmed_full (arm (Item i) k arms) = tt
  trimmed_full (arm (Open o) k arms) = tt
  trimmed_full (arm (Cat none) k arms) = trimmed_full arms
  trimmed_full (arm (Cat (more t ts)) k arms) = tt
  trimmed_full (arm (First one' alts) k arms) = tt
  trimmed_full (arm (Then one' t l) k arms) = tt

  pub first_normal : (xs : List (Arm I O K)) (d : Arm I O K) → 0 < length xs → NormalArms (arms_of xs) → Normal (get_or xs 0 d).node.value
  first_normal [] d lt h = absurd (omega arith)
  first_normal (a ∷ xs) d lt h = h.0

  pub bare_not : (xs : List (Arm I O K)) (d : Arm I O K) → 0 < length xs → Full (arms_of xs) → sure (get_or xs 0 d).node.value ≡ false → NotBare (arms_of xs)
  bare_not [] d lt f h = absurd (omega arith)
  bare_not (a ∷ xs) d lt f h = (f, h)

  pub no_arms_of : (xs : List (Arm I O K)) → length xs ≡ 0 → arms_of xs ≡ no_arm
  no_arms_of [] h = refl
  no_arms_of (a ∷ xs) h = absurd (omega arith)

pub some_arms : {A : Type 0} (xs : List A) (n : ℕ) → n ≡ length xs → n ≢ 0 → 0 < length xs
some_arms xs n e h = omega arith

module _ {B I K M : Type 0} (w : Sense B I K M) (kin : ℕ) where
  pub trim_fit : (arms : Arms I (Place B) K) → FitArms w kin arms → FitArms w kin (trimmed arms)
  trim_fit no_arm h = h
  trim_fit (arm (Item i) k arms) h = h
  trim_fit (arm (Open o) k arms) h = h
  trim_fit (arm (Cat none) k arms) h = trim_fit arms h.2
  trim_fit (arm (Cat (more t ts)) k arms) h = h
  trim_fit (arm (First one' alts) k arms) h = h
  trim_fit (arm (Then one' t l) k arms) h = h

  pub first_fit : (one : Bool) (xs : List (Arm I (Place B) K)) (d : Arm I (Place B) K) → 0 < length xs → d ≡ get_or xs 0 d → FitArms w kin (arms_of xs)
      → Fit w kin (Then one d.node.value d.then)
  first_fit one [] d lt e h = absurd (omega arith)
  first_fit one (a ∷ xs) d lt e h =
      let P : Arm I (Place B) K → Type 0 = λ x. Fit w kin (Then one x.node.value x.then) in
      subst P (sym e) (h.0, h.1)

  pub trims : (one : Bool) (xs ys : Arms I (Place B) K) → ys ≡ trimmed xs → Settles w kin (First one xs) (First one ys)
  trims one xs ys e =
      let P : Arms I (Place B) K → Type 0 = λ x. Settles w kin (First one xs) (First one x) in
      subst P (sym e) (trim_settles w kin one xs)

  pub trims_all : (one : Bool) (xs ys : Arms I (Place B) K) (t : Tree I (Place B) K) → ys ≡ trimmed xs → ys ≡ no_arm → t ≡ Cat none → Settles w kin (First one xs) t
  trims_all one xs ys t e f h =
      let P : Tree I (Place B) K → Type 0 = λ x. Settles w kin (First one xs) x in
      let Q : Arms I (Place B) K → Type 0 = λ x. Settles w kin (First one xs) (First one x) in
      subst P (sym h) (star_trans (subst Q f (trims one xs ys e)) (star_one no_arms))

  pub commits : (one : Bool) (alts : Arms I (Place B) K) (xs : List (Arm I (Place B) K)) (a d : Arm I (Place B) K) (u : Tree I (Place B) K) → arms_of xs ≡ trimmed alts
      → 0 < length xs → a ≡ get_or xs 0 a → sure (get_or xs 0 d).node.value ≡ true
      → Settles w kin (Then one a.node.value a.then) u → Settles w kin (First one alts) u
  commits one alts [] a d u e lt f h s = absurd (omega arith)
  commits one alts (b ∷ xs) a d u e lt f h s =
      let P : Arm I (Place B) K → Type 0 = λ x. Settles w kin (Then one x.node.value x.then) u in
      star_trans (trims one alts (arms_of (b ∷ xs)) e) (next (commit h) (subst P f s))

  -- what tidying leaves
  pub tidied : {E : Type 0} (r : Result (Unit {0}) E) (ts : Trees I (Place B) K) (t : Tree I (Place B) K) → MatchResult r (λ _. t ≡ joined (flat ts)) (λ _. t ≡ Cat ts)
      → Settles w kin (Cat ts) t
  tidied (Ok x) ts t e = subst (Settles w kin (Cat ts)) (sym e) (tidy_settles w kin ts)
  tidied (Err x) ts t e = subst (Settles w kin (Cat ts)) (sym e) done

module _ {I O K : Type 0} where
  pub tidied_normal : {E : Type 0} (r : Result (Unit {0}) E) (ts : Trees I O K) (t : Tree I O K) → MatchResult r (λ _. t ≡ joined (flat ts)) (λ _. t ≡ Cat ts)
      → Normals ts → OnOk r (Normal t)
  tidied_normal (Ok x) ts t e h =
      let P : Tree I O K → Type 0 = λ x. Normal x in
      subst P (sym e) (joined_normal (flat ts) (flat_flats ts h))
  tidied_normal (Err x) ts t e h = tt
