-- Steps of a tree, seen with each open place replaced by another.
use Rattle.std.specs.Prelude.{◌≡◌, ℕ, ◌+◌, List, [], ◌∷◌, ◌++◌, map, Bool, true, false, ◌||◌, refl, if◌then◌else◌, Option, Some, None}
use Rattle.std.proofs.Common.{sym, ◌∙◌, ap, subst}
use Rattle.std.specs.declared.sync.Arc.{Arc}
use Rattle.std.specs.declared.alloc.Global.{Global}
use Rattle.boxcar.specs.Table.{Where}
use Rattle.std.proofs.lemmas.List.{map-append}
use Rattle.elan_tree.specs.Tree.{Tree, Item, Open, Cat, First, Then, Trees, none, more, Arms, no_arm, arm, over, all_over, arms_over}
use Rattle.elan_tree.specs.Listing.{sure, any_sure}
use Rattle.elan_tree.specs.Places.{places, all_places, arm_places, or_else, has, any_has, arm_has, first_at, any_first, arm_first, first_place, any_place, arm_place, put, put_all, put_arms}
use Rattle.elan_tree.specs.Paths.{path_at, any_path, arm_path, through}
use Rattle.elan_tree.specs.Planting.{Posted, AllPosted, ArmsPosted, Planted}
use Rattle.elan_tree.specs.Moves.{State, Step, move, release_root, release_first, stop, Star, Cuts, cut_here, cut_later, Move, grow, single, drop_front, no_arms, over_empty, commit, cuts, push, resume, in_cat, in_first, in_then, Moves, splice, here, later, ArmMoves, arm_here, arm_later, join, pushed}
use Rattle.elan_tree.specs.Normal.{NotCat, NotEmpty, NotOne, Under, SureLast, NotBare, Normal, Flats, NormalArms}
use Rattle.elan_tree.specs.Fronts.{NotFirst}
use Rattle.elan_tree.specs.Marks.{Place, seen, plain}
use Rattle.elan_tree.proofs.Stars.{star_map}
use Rattle.elan_tree.specs.declared.branch.Growth.{Growth}
use Rattle.elan_tree.specs.declared.branch.Growth.TheVariants as G

module _ {O P : Type 0} (f : O → P) where
  -- the option with its value replaced
  abbrev pub image : Option O → Option P
  image None = None
  image (Some o) = Some (f o)

  image_or : (a b : Option O) → or_else (image a) (image b) ≡ image (or_else a b)
  image_or None b = refl
  image_or (Some o) b = refl

  image_if : (b : Bool) (o : O) → (if b then Some (f o) else None) ≡ image (if b then Some o else None)
  image_if true o = refl
  image_if false o = refl

module _ {I O P K : Type 0} (f : O → P) where
  mutual
    pub sure_over : (t : Tree I O K) → sure (over f t) ≡ sure t
    sure_over (Item i) = refl
    sure_over (Open o) = refl
    sure_over (Cat ts) = any_sure_over ts
    sure_over (First one arms) = refl
    sure_over (Then one t k) = refl

    any_sure_over : (ts : Trees I O K) → any_sure (all_over f ts) ≡ any_sure ts
    any_sure_over none = refl
    any_sure_over (more t ts) = λ j. sure_over t j || any_sure_over ts j

  join_over : (ts us : Trees I O K) → join (all_over f ts) (all_over f us) ≡ all_over f (join ts us)
  join_over none us = refl
  join_over (more t ts) us = ap (more (over f t)) (join_over ts us)

  pushed_over : (k : K) (ts : Trees I O K) → pushed k (all_over f ts) ≡ all_over f (pushed k ts)
  pushed_over k none = refl
  pushed_over k (more t ts) = ap (more (Then false (over f t) k)) (pushed_over k ts)

  cuts_over : {ts us : Trees I O K} → Cuts ts us → Cuts (all_over f ts) (all_over f us)
  cuts_over (cut_here {t = t} s) = cut_here (sure_over t ∙ s)
  cuts_over (cut_later {t = t} s c) = cut_later (sure_over t ∙ s) (cuts_over c)

  empty_over : (t : Tree I O K) → over f t ≡ Cat none → t ≡ Cat none
  empty_over (Item i) e = absurd (cc e)
  empty_over (Open o) e = absurd (cc e)
  empty_over (Cat none) e = refl
  empty_over (Cat (more t ts)) e = absurd (cc e)
  empty_over (First one arms) e = absurd (cc e)
  empty_over (Then one t k) e = absurd (cc e)

  abbrev pub state_over : State I O K → State I P K
  state_over s = record { released = s.released; tree = over f s.tree }

  module _ (Grows : O → Tree I O K → Type 0) (Resumes : K → I → Tree I O K → Type 0) (Grows' : P → Tree I P K → Type 0) (Resumes' : K → I → Tree I P K → Type 0)
      (grows : (o : O) (t : Tree I O K) → Grows o t → Grows' (f o) (over f t)) (resumes : (k : K) (i : I) (t : Tree I O K) → Resumes k i t → Resumes' k i (over f t)) where
    mutual
      pub move_over : {t u : Tree I O K} → Move Grows Resumes t u → Move Grows' Resumes' (over f t) (over f u)
      move_over (grow {o = o} {t = t} g) = grow (grows o t g)
      move_over single = single
      move_over drop_front = drop_front
      move_over no_arms = no_arms
      move_over over_empty = over_empty
      move_over (commit {t = t} s) = commit (sure_over t ∙ s)
      move_over (cuts c) = cuts (cuts_over c)
      move_over (push {ts = ts} {k = k}) =
          let Goal : Trees I P K → Type 0 = λ us. Move Grows' Resumes' (Then false (Cat (all_over f ts)) k) (Cat us) in
          subst Goal (pushed_over k ts) push
      move_over (resume {i = i} {k = k} {t = t} r) = resume (resumes k i t r)
      move_over (in_cat m) = in_cat (moves_over m)
      move_over (in_first m) = in_first (arm_moves_over m)
      move_over (in_then m) = in_then (move_over m)

      moves_over : {ts us : Trees I O K} → Moves Grows Resumes ts us → Moves Grows' Resumes' (all_over f ts) (all_over f us)
      moves_over (splice {ts = ts} {us = us}) =
          let Goal : Trees I P K → Type 0 = λ vs. Moves Grows' Resumes' (more (Cat (all_over f ts)) (all_over f us)) vs in
          subst Goal (join_over ts us) splice
      moves_over (here m) = here (move_over m)
      moves_over (later m) = later (moves_over m)

      arm_moves_over : {xs ys : Arms I O K} → ArmMoves Grows Resumes xs ys → ArmMoves Grows' Resumes' (arms_over f xs) (arms_over f ys)
      arm_moves_over (arm_here m) = arm_here (move_over m)
      arm_moves_over (arm_later m) = arm_later (arm_moves_over m)

    step_over : (limit : ℕ) (s t : State I O K) → Step Grows Resumes limit s t → Step Grows' Resumes' limit (state_over s) (state_over t)
    step_over limit s t (move m) = move (move_over m)
    step_over limit s t (release_root room) = release_root room
    step_over limit s t (release_first room) = release_first room
    step_over limit s t (stop {t = u} full some) = stop full (λ e. some (empty_over u e))

    pub steps_over : (limit : ℕ) {s t : State I O K} → Star (Step Grows Resumes limit) s t → Star (Step Grows' Resumes' limit) (state_over s) (state_over t)
    steps_over limit run = star_map state_over (step_over limit) run

  -- ---- the shape of settled trees
  not_cat_over : (t : Tree I O K) → NotCat t → NotCat (over f t)
  not_cat_over (Item i) h = h
  not_cat_over (Open o) h = h
  not_cat_over (Cat ts) h = h
  not_cat_over (First one arms) h = h
  not_cat_over (Then one t k) h = h

  not_empty_over : (t : Tree I O K) → NotEmpty t → NotEmpty (over f t)
  not_empty_over (Item i) h = h
  not_empty_over (Open o) h = h
  not_empty_over (Cat none) h = h
  not_empty_over (Cat (more t ts)) h = h
  not_empty_over (First one arms) h = h
  not_empty_over (Then one t k) h = h

  not_one_over : (ts : Trees I O K) → NotOne ts → NotOne (all_over f ts)
  not_one_over none h = h
  not_one_over (more t none) h = h
  not_one_over (more t (more u ts)) h = h

  sure_last_over : (ts : Trees I O K) → SureLast ts → SureLast (all_over f ts)
  sure_last_over none h = h
  sure_last_over (more t none) h = h
  sure_last_over (more t (more u ts)) h = (sure_over t ∙ h.0, sure_last_over (more u ts) h.1)

  under_over : (one : Bool) (t : Tree I O K) → Under one t → Under one (over f t)
  under_over one (Item i) h = h
  under_over one (Open o) h = h
  under_over true (Cat ts) h = sure_last_over ts h
  under_over false (Cat ts) h = h
  under_over one (First one' arms) h = h
  under_over one (Then one' t k) h = h

  not_bare_over : (arms : Arms I O K) → NotBare arms → NotBare (arms_over f arms)
  not_bare_over no_arm h = h
  not_bare_over (arm t k arms) h = (not_empty_over t h.0, sure_over t ∙ h.1)

  mutual
    pub normal_over : (t : Tree I O K) → Normal t → Normal (over f t)
    normal_over (Item i) h = h
    normal_over (Open o) h = h
    normal_over (Cat ts) h = (not_one_over ts h.0, flats_over ts h.1)
    normal_over (First one arms) h = (not_bare_over arms h.0, arms_normal_over arms h.1)
    normal_over (Then one t k) h = (under_over one t h.0, not_empty_over t h.1, normal_over t h.2)

    flats_over : (ts : Trees I O K) → Flats ts → Flats (all_over f ts)
    flats_over none h = h
    flats_over (more t ts) h = (not_cat_over t h.0, normal_over t h.1, flats_over ts h.2)

    arms_normal_over : (arms : Arms I O K) → NormalArms arms → NormalArms (arms_over f arms)
    arms_normal_over no_arm h = h
    arms_normal_over (arm t k arms) h = (normal_over t h.0, arms_normal_over arms h.1)

  pub not_first_over : (t : Tree I O K) → NotFirst t → NotFirst (over f t)
  not_first_over (Item j) h = h
  not_first_over (Open o) h = h
  not_first_over (Cat none) h = h
  not_first_over (Cat (more (Item j) ts)) h = h
  not_first_over (Cat (more (Open o) ts)) h = h
  not_first_over (Cat (more (Cat us) ts)) h = h
  not_first_over (Cat (more (First one arms) ts)) h = h
  not_first_over (Cat (more (Then one t k) ts)) h = h
  not_first_over (First one arms) h = h
  not_first_over (Then one t k) h = h

  -- ---- places
  mutual
    pub places_over : (t : Tree I O K) → places (over f t) ≡ map f (places t)
    places_over (Item i) = refl
    places_over (Open o) = refl
    places_over (Cat ts) = all_places_over ts
    places_over (First one arms) = arm_places_over arms
    places_over (Then one t k) = places_over t

    all_places_over : (ts : Trees I O K) → all_places (all_over f ts) ≡ map f (all_places ts)
    all_places_over none = refl
    all_places_over (more t ts) = (λ j. places_over t j ++ all_places_over ts j) ∙ sym (map-append f (places t) (all_places ts))

    arm_places_over : (arms : Arms I O K) → arm_places (arms_over f arms) ≡ map f (arm_places arms)
    arm_places_over no_arm = refl
    arm_places_over (arm t k arms) = (λ j. places_over t j ++ arm_places_over arms j) ∙ sym (map-append f (places t) (arm_places arms))

  mutual
    pub first_place_over : (t : Tree I O K) → first_place (over f t) ≡ image f (first_place t)
    first_place_over (Item i) = refl
    first_place_over (Open o) = refl
    first_place_over (Cat ts) = any_place_over ts
    first_place_over (First one arms) = arm_place_over arms
    first_place_over (Then one t k) = first_place_over t

    any_place_over : (ts : Trees I O K) → any_place (all_over f ts) ≡ image f (any_place ts)
    any_place_over none = refl
    any_place_over (more t ts) = (λ j. or_else (first_place_over t j) (any_place_over ts j)) ∙ image_or f (first_place t) (any_place ts)

    arm_place_over : (arms : Arms I O K) → arm_place (arms_over f arms) ≡ image f (arm_place arms)
    arm_place_over no_arm = refl
    arm_place_over (arm t k arms) = (λ j. or_else (first_place_over t j) (arm_place_over arms j)) ∙ image_or f (first_place t) (arm_place arms)

  module _ (test : P → Bool) where
    mutual
      pub first_over : (t : Tree I O K) → first_at test (over f t) ≡ image f (first_at (λ o. test (f o)) t)
      first_over (Item i) = refl
      first_over (Open o) = image_if f (test (f o)) o
      first_over (Cat ts) = any_first_over ts
      first_over (First one arms) = arm_first_over arms
      first_over (Then one t k) = first_over t

      any_first_over : (ts : Trees I O K) → any_first test (all_over f ts) ≡ image f (any_first (λ o. test (f o)) ts)
      any_first_over none = refl
      any_first_over (more t ts) = (λ j. or_else (first_over t j) (any_first_over ts j)) ∙ image_or f (first_at (λ o. test (f o)) t) (any_first (λ o. test (f o)) ts)

      arm_first_over : (arms : Arms I O K) → arm_first test (arms_over f arms) ≡ image f (arm_first (λ o. test (f o)) arms)
      arm_first_over no_arm = refl
      arm_first_over (arm t k arms) = (λ j. or_else (first_over t j) (arm_first_over arms j)) ∙ image_or f (first_at (λ o. test (f o)) t) (arm_first (λ o. test (f o)) arms)

    mutual
      pub has_over : (t : Tree I O K) → has test (over f t) ≡ has (λ o. test (f o)) t
      has_over (Item i) = refl
      has_over (Open o) = refl
      has_over (Cat ts) = any_has_over ts
      has_over (First one arms) = arm_has_over arms
      has_over (Then one t k) = has_over t

      any_has_over : (ts : Trees I O K) → any_has test (all_over f ts) ≡ any_has (λ o. test (f o)) ts
      any_has_over none = refl
      any_has_over (more t ts) = λ j. has_over t j || any_has_over ts j

      arm_has_over : (arms : Arms I O K) → arm_has test (arms_over f arms) ≡ arm_has (λ o. test (f o)) arms
      arm_has_over no_arm = refl
      arm_has_over (arm t k arms) = λ j. has_over t j || arm_has_over arms j

    mutual
      pub path_over : (t : Tree I O K) → path_at test (over f t) ≡ path_at (λ o. test (f o)) t
      path_over (Item i) = refl
      path_over (Open o) = refl
      path_over (Cat ts) = any_path_over 0 ts
      path_over (First one arms) = arm_path_over 0 arms
      path_over (Then one t k) = ap (through 0) (path_over t)

      any_path_over : (n : ℕ) (ts : Trees I O K) → any_path test n (all_over f ts) ≡ any_path (λ o. test (f o)) n ts
      any_path_over n none = refl
      any_path_over n (more t ts) = λ j. or_else (through n (path_over t j)) (any_path_over (n + 1) ts j)

      arm_path_over : (n : ℕ) (arms : Arms I O K) → arm_path test n (arms_over f arms) ≡ arm_path (λ o. test (f o)) n arms
      arm_path_over n no_arm = refl
      arm_path_over n (arm t k arms) = λ j. or_else (through n (path_over t j)) (arm_path_over (n + 1) arms j)

    module _ (u : Tree I O K) where
      put_if : (b : Bool) (o : O) → (if b then over f u else Open (f o)) ≡ over f (if b then u else Open o)
      put_if true o = refl
      put_if false o = refl

      all_if : (b c : Bool) (t t' : Tree I O K) (ts ts' : Trees I O K) (v : Tree I P K) (vs : Trees I P K) → c ≡ b → v ≡ over f t' → vs ≡ all_over f ts'
          → (if c then more v (all_over f ts) else more (over f t) vs) ≡ all_over f (if b then more t' ts else more t ts')
      all_if true true t t' ts ts' v vs e p q = ap (λ x. more x (all_over f ts)) p
      all_if false false t t' ts ts' v vs e p q = ap (more (over f t)) q
      all_if true false t t' ts ts' v vs e p q = absurd (cc e)
      all_if false true t t' ts ts' v vs e p q = absurd (cc e)

      arms_if : (b c : Bool) (k : K) (t t' : Tree I O K) (xs xs' : Arms I O K) (v : Tree I P K) (vs : Arms I P K) → c ≡ b → v ≡ over f t' → vs ≡ arms_over f xs'
          → (if c then arm v k (arms_over f xs) else arm (over f t) k vs) ≡ arms_over f (if b then arm t' k xs else arm t k xs')
      arms_if true true k t t' xs xs' v vs e p q = ap (λ x. arm x k (arms_over f xs)) p
      arms_if false false k t t' xs xs' v vs e p q = ap (arm (over f t) k) q
      arms_if true false k t t' xs xs' v vs e p q = absurd (cc e)
      arms_if false true k t t' xs xs' v vs e p q = absurd (cc e)

      mutual
        pub put_over : (t : Tree I O K) → put test (over f u) (over f t) ≡ over f (put (λ o. test (f o)) u t)
        put_over (Item i) = refl
        put_over (Open o) = put_if (test (f o)) o
        put_over (Cat ts) = ap Cat (put_all_over ts)
        put_over (First one arms) = ap (First one) (put_arms_over arms)
        put_over (Then one t k) = ap (λ x. Then one x k) (put_over t)

        put_all_over : (ts : Trees I O K) → put_all test (over f u) (all_over f ts) ≡ all_over f (put_all (λ o. test (f o)) u ts)
        put_all_over none = refl
        put_all_over (more t ts) =
            all_if (has (λ o. test (f o)) t) (has test (over f t)) t (put (λ o. test (f o)) u t) ts (put_all (λ o. test (f o)) u ts) (put test (over f u) (over f t)) (put_all test (over f u) (all_over f ts))
            (has_over t) (put_over t) (put_all_over ts)

        put_arms_over : (arms : Arms I O K) → put_arms test (over f u) (arms_over f arms) ≡ arms_over f (put_arms (λ o. test (f o)) u arms)
        put_arms_over no_arm = refl
        put_arms_over (arm t k arms) =
            arms_if (has (λ o. test (f o)) t) (has test (over f t)) k t (put (λ o. test (f o)) u t) arms (put_arms (λ o. test (f o)) u arms) (put test (over f u) (over f t)) (put_arms test (over f u) (arms_over f arms))
            (has_over t) (put_over t) (put_arms_over arms)

-- ---- the tree of a growth
module _ {B I O P K : Type 0} (f : O → P) (Is : B → O → Type 0) (Is' : B → P → Type 0) (is : (b : B) (o : O) → Is b o → Is' b (f o)) where
  posted_over : (b : B) (t : Tree I O K) → Posted Is b t → Posted Is' b (over f t)
  posted_over b (Item i) h = h
  posted_over b (Open o) h = is b o h
  posted_over b (Cat ts) h = h
  posted_over b (First one arms) h = h
  posted_over b (Then one t k) h = h

  all_posted_over : (bs : List B) (ts : Trees I O K) → AllPosted Is bs ts → AllPosted Is' bs (all_over f ts)
  all_posted_over [] none h = h
  all_posted_over [] (more t ts) h = h
  all_posted_over (b ∷ bs) none h = h
  all_posted_over (b ∷ bs) (more t ts) h = (posted_over b t h.0, all_posted_over bs ts h.1)

  arms_posted_over : (alts : List (B × Arc K Global)) (arms : Arms I O K) → ArmsPosted Is alts arms → ArmsPosted Is' alts (arms_over f arms)
  arms_posted_over [] no_arm h = h
  arms_posted_over [] (arm t k arms) h = h
  arms_posted_over (a ∷ alts) no_arm h = h
  arms_posted_over (a ∷ alts) (arm t k arms) h = (posted_over a.0 t h.0, h.1, arms_posted_over alts arms h.2)

module _ {B I O P K M : Type 0} (f : O → P) (Is : B → O → Type 0) (Is' : B → P → Type 0) (is : (b : B) (o : O) → Is b o → Is' b (f o)) where
  pub planted_over : (g : Growth B I K M) (t : Tree I O K) → Planted Is g t → Planted Is' g (over f t)
  planted_over G.Nothing t h = ap (over f) h
  planted_over (G.Item i) t h = ap (over f) h
  planted_over (G.Next b) t h = posted_over f Is Is' is b t h
  planted_over (G.Many bs) t h = (all_over f h.0, ap (over f) h.1, all_posted_over f Is Is' is bs.items h.0 h.2)
  planted_over (G.Scope one alts) t h = (arms_over f h.0, ap (over f) h.1, arms_posted_over f Is Is' is alts.items h.0 h.2)

-- ---- marking and unmarking
module _ {B I K : Type 0} where
  mutual
    pub plain_seen : (t : Tree I (Where B) K) → plain (over seen t) ≡ t
    plain_seen (Item i) = refl
    plain_seen (Open s) = refl
    plain_seen (Cat ts) = ap Cat (all_plain_seen ts)
    plain_seen (First one arms) = ap (First one) (arms_plain_seen arms)
    plain_seen (Then one t k) = ap (λ x. Then one x k) (plain_seen t)

    all_plain_seen : (ts : Trees I (Where B) K) → all_over (λ (p : Place B). p.spot) (all_over seen ts) ≡ ts
    all_plain_seen none = refl
    all_plain_seen (more t ts) = λ j. more (plain_seen t j) (all_plain_seen ts j)

    arms_plain_seen : (arms : Arms I (Where B) K) → arms_over (λ (p : Place B). p.spot) (arms_over seen arms) ≡ arms
    arms_plain_seen no_arm = refl
    arms_plain_seen (arm t k arms) = λ j. arm (plain_seen t j) k (arms_plain_seen arms j)
