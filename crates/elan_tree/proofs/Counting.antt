-- How many places are open, and how many of them are new.
use Rattle.std.specs.Prelude.{◌≡◌, ℕ, ◌+◌, ◌<◌, ◌≤◌, length, List, [], ◌∷◌, ◌++◌, Bool, true, false, ◌||◌, refl, drop, if◌then◌else◌}
use Rattle.std.proofs.Common.{sym, ◌∙◌, ap, arith, get_or, length-append}
use Rattle.std.proofs.lemmas.List.{drop_more, append_assoc}
use Rattle.boxcar.specs.Table.{Where}
use Rattle.elan_tree.specs.Sense.{Sense}
use Rattle.elan_tree.specs.Tree.{Tree, Item, Open, Cat, First, Then, Trees, none, more, Arms, no_arm, arm, trees, over, all_over, arms_over}
use Rattle.elan_tree.specs.Shape.{arms_of}
use Rattle.elan_tree.specs.Places.{places, all_places, arm_places, has, any_has, arm_has, put, put_all, put_arms}
use Rattle.elan_tree.specs.Marks.{Place, seen, plain, at_place, fresh_spots, IsFresh}
use Rattle.elan_tree.specs.Planting.{Posted, AllPosted, ArmsPosted, Planted}
use Rattle.elan_tree.specs.Settling.{Makes}
use Rattle.elan_tree.specs.Growing.{Stands}
use Rattle.elan_tree.specs.Normal.{NoGrow}
use Rattle.elan_tree.specs.Moves.{State, Step, move, release_root, release_first, stop, Star, done, next, Cuts, cut_here, cut_later, Move, grow, single, drop_front, no_arms, over_empty, commit, cuts, push, resume, in_cat, in_first, in_then, Moves, splice, here, later, ArmMoves, arm_here, arm_later, join, pushed}
use Rattle.elan_tree.specs.declared.node.Arm.{Arm}
use Rattle.elan_tree.specs.declared.branch.Growth.{Growth}
use Rattle.elan_tree.specs.declared.branch.Growth.TheVariants as G
use Rattle.elan_tree.proofs.Core.{length-map}
use Rattle.elan_tree.proofs.Over.{has_over, places_over}
use Rattle.std.specs.declared.sync.Arc.{Arc}
use Rattle.std.specs.declared.alloc.Global.{Global}

-- the sum of what each open place counts for
module _ {I O K : Type 0} (f : O → ℕ) where
  abbrev mutual
    pub amount : Tree I O K → ℕ
    amount (Item i) = 0
    amount (Open o) = f o
    amount (Cat ts) = amounts ts
    amount (First one arms) = arm_amount arms
    amount (Then one t k) = amount t

    pub amounts : Trees I O K → ℕ
    amounts none = 0
    amounts (more t ts) = amount t + amounts ts

    pub arm_amount : Arms I O K → ℕ
    arm_amount no_arm = 0
    arm_amount (arm t k arms) = amount t + arm_amount arms

abbrev pub one_each : {O : Type 0} → O → ℕ
one_each o = 1

-- a place that is not new counts one
abbrev pub one_if_old : {B : Type 0} → Place B → ℕ
one_if_old p = if p.fresh then 0 else 1

module _ {I O K : Type 0} where
  mutual
    pub count-places : (t : Tree I O K) → length (places t) ≡ amount one_each t
    count-places (Item i) = refl
    count-places (Open o) = refl
    count-places (Cat ts) = all_count ts
    count-places (First one arms) = arm_count arms
    count-places (Then one t k) = count-places t

    all_count : (ts : Trees I O K) → length (all_places ts) ≡ amounts one_each ts
    all_count none = refl
    all_count (more t ts) = omega (arith, length-append (places t) (all_places ts), count-places t, all_count ts)

    arm_count : (arms : Arms I O K) → length (arm_places arms) ≡ arm_amount one_each arms
    arm_count no_arm = refl
    arm_count (arm t k arms) = omega (arith, length-append (places t) (arm_places arms), count-places t, arm_count arms)

-- ---- the new ones
fresh_if : {A : Type 0} (b : Bool) (s : A) (xs all ys : List A) → all ≡ xs ++ ys → (if b then s ∷ all else all) ≡ (if b then s ∷ xs else xs) ++ ys
fresh_if true s xs all ys e = ap (λ l. s ∷ l) e
fresh_if false s xs all ys e = e

pub fresh-append : {B : Type 0} (ps qs : List (Place B)) → fresh_spots (ps ++ qs) ≡ fresh_spots ps ++ fresh_spots qs
fresh-append [] qs = refl
fresh-append (p ∷ ps) qs = fresh_if p.fresh p.spot (fresh_spots ps) (fresh_spots (ps ++ qs)) (fresh_spots qs) (fresh-append ps qs)

fresh_one : {B : Type 0} (b : Bool) (s : Where B) → 1 ≡ (if b then 0 else 1) + length (if b then s ∷ [] else [])
fresh_one true s = refl
fresh_one false s = refl

fresh_sum : {B : Type 0} (ps qs : List (Place B)) → length (fresh_spots (ps ++ qs)) ≡ length (fresh_spots ps) + length (fresh_spots qs)
fresh_sum ps qs = ap length (fresh-append ps qs) ∙ length-append (fresh_spots ps) (fresh_spots qs)

module _ {B I K : Type 0} where
  mutual
    -- each place is new or not
    pub count_parts : (t : Tree I (Place B) K) → amount one_each t ≡ amount one_if_old t + length (fresh_spots (places t))
    count_parts (Item i) = refl
    count_parts (Open p) = fresh_one p.fresh p.spot
    count_parts (Cat ts) = all_parts ts
    count_parts (First one arms) = arm_parts arms
    count_parts (Then one t k) = count_parts t

    all_parts : (ts : Trees I (Place B) K) → amounts one_each ts ≡ amounts one_if_old ts + length (fresh_spots (all_places ts))
    all_parts none = refl
    all_parts (more t ts) = omega (arith, fresh_sum (places t) (all_places ts), count_parts t, all_parts ts)

    arm_parts : (arms : Arms I (Place B) K) → arm_amount one_each arms ≡ arm_amount one_if_old arms + length (fresh_spots (arm_places arms))
    arm_parts no_arm = refl
    arm_parts (arm t k arms) = omega (arith, fresh_sum (places t) (arm_places arms), count_parts t, arm_parts arms)

-- ---- steps other than growing add no place that is not new
module _ {B I K M : Type 0} (w : Sense B I K M) (kin : ℕ) where
  abbrev old : Tree I (Place B) K → ℕ
  old t = amount one_if_old t

  abbrev olds : Trees I (Place B) K → ℕ
  olds ts = amounts one_if_old ts

  abbrev arm_olds : Arms I (Place B) K → ℕ
  arm_olds arms = arm_amount one_if_old arms

  fresh_none : (p : Place B) → p.fresh ≡ true → one_if_old p ≡ 0
  fresh_none p e = ap (λ (b : Bool). if b then 0 else 1) e

  made_old : (k : K) (i : I) (t : Tree I (Place B) K) → Makes w kin k i t → old t ≡ 0
  made_old k i (Item j) h = refl
  made_old k i (Open p) h = fresh_none p h.1
  made_old k i (Cat ts) h = absurd h
  made_old k i (First one arms) h = absurd h
  made_old k i (Then one t l) h = absurd h

  join_old : (ts us : Trees I (Place B) K) → olds (join ts us) ≡ olds ts + olds us
  join_old none us = omega arith
  join_old (more t ts) us = omega (arith, join_old ts us)

  pushed_old : (k : K) (ts : Trees I (Place B) K) → olds (pushed k ts) ≡ olds ts
  pushed_old k none = refl
  pushed_old k (more t ts) = ap (λ n. old t + n) (pushed_old k ts)

  cuts_old : {ts us : Trees I (Place B) K} → Cuts ts us → olds us ≤ olds ts
  cuts_old (cut_here {t = t} {u = u} {ts = ts} s) = omega arith
  cuts_old (cut_later {t = t} s c) = omega (arith, cuts_old c)

  mutual
    move_old : {t u : Tree I (Place B) K} → Move NoGrow (Makes w kin) t u → old u ≤ old t
    move_old (grow g) = absurd g
    move_old (single {t = t}) = omega arith
    move_old (drop_front {arms = arms}) = omega arith
    move_old no_arms = omega arith
    move_old over_empty = omega arith
    move_old (commit {t = t} {arms = arms} s) = omega arith
    move_old (cuts c) = cuts_old c
    move_old (push {ts = ts} {k = k}) = omega (arith, pushed_old k ts)
    move_old (resume {i = i} {k = k} {t = t} r) = omega (arith, made_old k i t r)
    move_old (in_cat m) = moves_old m
    move_old (in_first m) = arm_moves_old m
    move_old (in_then m) = move_old m

    moves_old : {ts us : Trees I (Place B) K} → Moves NoGrow (Makes w kin) ts us → olds us ≤ olds ts
    moves_old (splice {ts = ts} {us = us}) = omega (arith, join_old ts us)
    moves_old (here m) = omega (arith, move_old m)
    moves_old (later m) = omega (arith, moves_old m)

    arm_moves_old : {xs ys : Arms I (Place B) K} → ArmMoves NoGrow (Makes w kin) xs ys → arm_olds ys ≤ arm_olds xs
    arm_moves_old (arm_here m) = omega (arith, move_old m)
    arm_moves_old (arm_later m) = omega (arith, arm_moves_old m)

  step_old : (limit : ℕ) {s t : State I (Place B) K} → Step NoGrow (Makes w kin) limit s t → old t.tree ≤ old s.tree
  step_old limit (move m) = move_old m
  step_old limit (release_root room) = omega arith
  step_old limit (release_first {ts = ts} room) = omega arith
  step_old limit (stop {t = t} full some) = omega arith

  run_old : (limit : ℕ) {s t : State I (Place B) K} → Star (Step NoGrow (Makes w kin) limit) s t → old t.tree ≤ old s.tree
  run_old limit done = omega arith
  run_old limit (next step run) = omega (arith, step_old limit step, run_old limit run)

-- ---- the tree of a growth has new places alone
module _ {B I K : Type 0} where
  posted_old : (b : B) (t : Tree I (Place B) K) → Posted IsFresh b t → amount one_if_old t ≡ 0
  posted_old b (Item i) h = absurd h
  posted_old b (Open p) h = ap (λ (x : Bool). if x then 0 else 1) h.1
  posted_old b (Cat ts) h = absurd h
  posted_old b (First one arms) h = absurd h
  posted_old b (Then one t k) h = absurd h

  all_posted_old : (bs : List B) (ts : Trees I (Place B) K) → AllPosted IsFresh bs ts → amounts one_if_old ts ≡ 0
  all_posted_old [] none h = refl
  all_posted_old [] (more t ts) h = absurd h
  all_posted_old (b ∷ bs) none h = absurd h
  all_posted_old (b ∷ bs) (more t ts) h = omega (arith, posted_old b t h.0, all_posted_old bs ts h.1)

  arms_posted_old : (alts : List (B × Arc K Global)) (arms : Arms I (Place B) K) → ArmsPosted IsFresh alts arms → arm_amount one_if_old arms ≡ 0
  arms_posted_old [] no_arm h = refl
  arms_posted_old [] (arm t k arms) h = absurd h
  arms_posted_old (a ∷ alts) no_arm h = absurd h
  arms_posted_old (a ∷ alts) (arm t k arms) h = omega (arith, posted_old a.0 t h.0, arms_posted_old alts arms h.2)

module _ {B I K M : Type 0} where
  planted_old : (g : Growth B I K M) (t : Tree I (Place B) K) → Planted IsFresh g t → amount one_if_old t ≡ 0
  planted_old G.Nothing t h = ap (amount one_if_old) h
  planted_old (G.Item i) t h = ap (amount one_if_old) h
  planted_old (G.Next b) t h = posted_old b t h
  planted_old (G.Many bs) t h = ap (amount one_if_old) h.1 ∙ all_posted_old bs.items h.0 h.2
  planted_old (G.Scope one alts) t h = ap (amount one_if_old) h.1 ∙ arms_posted_old alts.items h.0 h.2

-- ---- one place goes where a tree is placed
module _ {I O P K : Type 0} (g : P → O) (f : O → ℕ) (ones : (s : P) → f (g s) ≡ 1) where
  mutual
    amount_over : (t : Tree I P K) → amount f (over g t) ≡ amount one_each t
    amount_over (Item i) = refl
    amount_over (Open s) = ones s
    amount_over (Cat ts) = amounts_over ts
    amount_over (First one arms) = arm_amount_over arms
    amount_over (Then one t k) = amount_over t

    amounts_over : (ts : Trees I P K) → amounts f (all_over g ts) ≡ amounts one_each ts
    amounts_over none = refl
    amounts_over (more t ts) = λ j. amount_over t j + amounts_over ts j

    arm_amount_over : (arms : Arms I P K) → arm_amount f (arms_over g arms) ≡ arm_amount one_each arms
    arm_amount_over no_arm = refl
    arm_amount_over (arm t k arms) = λ j. amount_over t j + arm_amount_over arms j

  module _ (test : O → Bool) (u : Tree I O K) where
    abbrev before : P → Bool
    before s = test (g s)

    place_if : (b : Bool) (s : P) → b ≡ true → amount f (if b then u else Open (g s)) + 1 ≡ 1 + amount f u
    place_if true s e = omega arith
    place_if false s e = absurd (cc e)

    or_here : (a b : Bool) → (a || b) ≡ true → a ≡ false → b ≡ true
    or_here true b h e = absurd (cc e)
    or_here false b h e = h

    all_if : (b c : Bool) (t : Tree I P K) (ts : Trees I P K) (v : Tree I O K) (vs : Trees I O K) → c ≡ b → (b ≡ true → amount f v + 1 ≡ amount one_each t + amount f u)
        → (b ≡ false → amounts f vs + 1 ≡ amounts one_each ts + amount f u)
        → amounts f (if c then more v (all_over g ts) else more (over g t) vs) + 1 ≡ amount one_each t + amounts one_each ts + amount f u
    all_if true true t ts v vs e h k = omega (arith, h refl, amounts_over ts)
    all_if false false t ts v vs e h k = omega (arith, k refl, amount_over t)
    all_if true false t ts v vs e h k = absurd (cc e)
    all_if false true t ts v vs e h k = absurd (cc e)

    arms_if : (b c : Bool) (l : K) (t : Tree I P K) (arms : Arms I P K) (v : Tree I O K) (vs : Arms I O K) → c ≡ b → (b ≡ true → amount f v + 1 ≡ amount one_each t + amount f u)
        → (b ≡ false → arm_amount f vs + 1 ≡ arm_amount one_each arms + amount f u)
        → arm_amount f (if c then arm v l (arms_over g arms) else arm (over g t) l vs) + 1 ≡ amount one_each t + arm_amount one_each arms + amount f u
    arms_if true true l t arms v vs e h k = omega (arith, h refl, arm_amount_over arms)
    arms_if false false l t arms v vs e h k = omega (arith, k refl, amount_over t)
    arms_if true false l t arms v vs e h k = absurd (cc e)
    arms_if false true l t arms v vs e h k = absurd (cc e)

    mutual
      put_amount : (t : Tree I P K) → has before t ≡ true → amount f (put test u (over g t)) + 1 ≡ amount one_each t + amount f u
      put_amount (Item i) h = absurd (cc h)
      put_amount (Open s) h = place_if (test (g s)) s h
      put_amount (Cat ts) h = put_amounts ts h
      put_amount (First one arms) h = put_arm_amount arms h
      put_amount (Then one t k) h = put_amount t h

      put_amounts : (ts : Trees I P K) → any_has before ts ≡ true → amounts f (put_all test u (all_over g ts)) + 1 ≡ amounts one_each ts + amount f u
      put_amounts none h = absurd (cc h)
      put_amounts (more t ts) h =
          all_if (has before t) (has test (over g t)) t ts (put test u (over g t)) (put_all test u (all_over g ts)) (has_over g test t) (λ e. put_amount t e)
          (λ e. put_amounts ts (or_here (has before t) (any_has before ts) h e))

      put_arm_amount : (arms : Arms I P K) → arm_has before arms ≡ true → arm_amount f (put_arms test u (arms_over g arms)) + 1 ≡ arm_amount one_each arms + amount f u
      put_arm_amount no_arm h = absurd (cc h)
      put_arm_amount (arm t k arms) h =
          arms_if (has before t) (has test (over g t)) k t arms (put test u (over g t)) (put_arms test u (arms_over g arms)) (has_over g test t) (λ e. put_amount t e)
          (λ e. put_arm_amount arms (or_here (has before t) (arm_has before arms) h e))

-- ---- what a growth leaves of the places that were open before
module _ {B I K M : Type 0} (w : Sense B I K M) where
  pub length-plain : (t : Tree I (Place B) K) → length (places (plain t)) ≡ length (places t)
  length-plain t = ap length (places_over (λ (p : Place B). p.spot) t) ∙ length-map (λ (p : Place B). p.spot) (places t)

  stands_old : (spot : Where B) (g : Growth B I K M) (t u : Tree I (Place B) K) → Stands spot g t u → amount one_if_old u + 1 ≡ length (places t)
  stands_old spot g t u st =
      let open_now : has (λ s. at_place spot.index (seen s)) (plain t) ≡ true = has_over (λ (p : Place B). p.spot) (λ s. at_place spot.index (seen s)) t ∙ st.open_before in
      let all = put_amount seen one_if_old (λ s. refl) (at_place spot.index) st.planted (plain t) open_now in
      let none_old = planted_old g st.planted st.of_growth in
      let same = ap (amount one_if_old) st.stands in
      let counted = count-places (plain t) in
      let long = length-plain t in
      omega (arith, all, none_old, same, counted, long)

  -- the places that are not new are fewer than there were
  pub stood_old : (kin limit : ℕ) (spot : Where B) (g : Growth B I K M) (rs ss : List I) (t u v : Tree I (Place B) K) → Stands spot g t u
      → Star (Step NoGrow (Makes w kin) limit) record { released = rs; tree = u } record { released = ss; tree = v }
      → length (places v) + 1 ≤ length (places t) + length (fresh_spots (places v))
  stood_old kin limit spot g rs ss t u v st steps =
      let start = stands_old spot g t u st in
      let run = run_old w kin limit steps in
      let parts = count_parts v in
      let counted = count-places v in
      omega (arith, start, run, parts, counted)

-- ---- loops over children and over alternatives
module _ {I O K : Type 0} where
  pub count_next : (xs : List (Tree I O K)) (i : ℕ) (t : Tree I O K) (sum n total : ℕ) → i < length xs → t ≡ get_or xs i t → n ≡ length (places t)
      → sum + length (all_places (trees (drop i xs))) ≡ total → sum + n + length (all_places (trees (drop (i + 1) xs))) ≡ total
  count_next xs i t sum n total lt e f h =
      let rest : List (Tree I O K) = drop (i + 1) xs in
      let split : length (all_places (trees (drop i xs))) ≡ length (all_places (trees (t ∷ rest))) =
      ap (λ l. length (all_places (trees l))) (drop_more xs i t lt ∙ ap (λ x. x ∷ rest) (sym e)) in
      omega (arith, split, length-append (places t) (all_places (trees rest)), f, h)

  pub count_arm_next : (xs : List (Arm I O K)) (i : ℕ) (a : Arm I O K) (sum n total : ℕ) → i < length xs → a ≡ get_or xs i a → n ≡ length (places a.node.value)
      → sum + length (arm_places (arms_of (drop i xs))) ≡ total → sum + n + length (arm_places (arms_of (drop (i + 1) xs))) ≡ total
  count_arm_next xs i a sum n total lt e f h =
      let rest : List (Arm I O K) = drop (i + 1) xs in
      let split : length (arm_places (arms_of (drop i xs))) ≡ length (arm_places (arms_of (a ∷ rest))) =
      ap (λ l. length (arm_places (arms_of l))) (drop_more xs i a lt ∙ ap (λ x. x ∷ rest) (sym e)) in
      omega (arith, split, length-append (places a.node.value) (arm_places (arms_of rest)), f, h)

module _ {B I K : Type 0} where
  pub list_next : (xs : List (Tree I (Place B) K)) (i : ℕ) (t : Tree I (Place B) K) (out new total : List (Where B)) → i < length xs → t ≡ get_or xs i t
      → new ≡ out ++ fresh_spots (places t) → out ++ fresh_spots (all_places (trees (drop i xs))) ≡ total → new ++ fresh_spots (all_places (trees (drop (i + 1) xs))) ≡ total
  list_next xs i t out new total lt e f h =
      let rest : List (Tree I (Place B) K) = drop (i + 1) xs in
      let split : fresh_spots (all_places (trees (drop i xs))) ≡ fresh_spots (places t) ++ fresh_spots (all_places (trees rest)) =
      ap (λ l. fresh_spots (all_places (trees l))) (drop_more xs i t lt ∙ ap (λ x. x ∷ rest) (sym e)) ∙ fresh-append (places t) (all_places (trees rest)) in
      ap (λ l. l ++ fresh_spots (all_places (trees rest))) f ∙ append_assoc out (fresh_spots (places t)) (fresh_spots (all_places (trees rest))) ∙ ap (λ l. out ++ l) (sym split) ∙ h

  pub list_arm_next : (xs : List (Arm I (Place B) K)) (i : ℕ) (a : Arm I (Place B) K) (out new total : List (Where B)) → i < length xs → a ≡ get_or xs i a
      → new ≡ out ++ fresh_spots (places a.node.value) → out ++ fresh_spots (arm_places (arms_of (drop i xs))) ≡ total
      → new ++ fresh_spots (arm_places (arms_of (drop (i + 1) xs))) ≡ total
  list_arm_next xs i a out new total lt e f h =
      let rest : List (Arm I (Place B) K) = drop (i + 1) xs in
      let split : fresh_spots (arm_places (arms_of (drop i xs))) ≡ fresh_spots (places a.node.value) ++ fresh_spots (arm_places (arms_of rest)) =
      ap (λ l. fresh_spots (arm_places (arms_of l))) (drop_more xs i a lt ∙ ap (λ x. x ∷ rest) (sym e)) ∙ fresh-append (places a.node.value) (arm_places (arms_of rest)) in
      ap (λ l. l ++ fresh_spots (arm_places (arms_of rest))) f ∙ append_assoc out (fresh_spots (places a.node.value)) (fresh_spots (arm_places (arms_of rest))) ∙ ap (λ l. out ++ l) (sym split) ∙ h

-- no more places are new than there are
pub fresh_le : {B I K : Type 0} (t : Tree I (Place B) K) → length (fresh_spots (places t)) ≤ length (places t)
fresh_le t = omega (arith, count_parts t, count-places t)
