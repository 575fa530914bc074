-- All that stands in a tree keeps its kin.
use Rattle.std.specs.Prelude.{◌≡◌, ℕ, All}
use Rattle.std.proofs.lemmas.List.Elements.{All-push}
use Rattle.elan_tree.specs.Sense.{Sense}
use Rattle.elan_tree.specs.Tree.{Tree, Item, Open, Cat, First, Then, Trees, none, more, Arms, no_arm, arm, over, all_over, arms_over}
use Rattle.elan_tree.specs.Moves.{State, Step, Star, done, next, Move, grow, single, drop_front, no_arms, over_empty, commit, cuts, push, resume, in_cat, in_first, in_then, Moves, splice, here, later, ArmMoves, arm_here, arm_later, Cuts, cut_here, cut_later, join, pushed, move, release_root, release_first, stop}
use Rattle.elan_tree.specs.Resuming.{OfKin, AllOfKin, ArmsOfKin}

module _ {B I O K M : Type 0} (w : Sense B I K M) (value : O → B) (kin : ℕ) where
  join_kin : (ts us : Trees I O K) → AllOfKin w value kin ts → AllOfKin w value kin us → AllOfKin w value kin (join ts us)
  join_kin none us h k = k
  join_kin (more t ts) us h k = (h.0, join_kin ts us h.1 k)

  pushed_kin : (k : K) (ts : Trees I O K) → w.kin_of_then k ≡ kin → AllOfKin w value kin ts → AllOfKin w value kin (pushed k ts)
  pushed_kin k none e h = tt
  pushed_kin k (more t ts) e h = ((h.0, e), pushed_kin k ts e h.1)

  cuts_kin : {ts us : Trees I O K} → Cuts ts us → AllOfKin w value kin ts → AllOfKin w value kin us
  cuts_kin (cut_here s) h = (h.0, tt)
  cuts_kin (cut_later s c) h = (h.0, cuts_kin c h.1)

  module _ (Grows : O → Tree I O K → Type 0) (Resumes : K → I → Tree I O K → Type 0) (none_grows : (o : O) (t : Tree I O K) → Grows o t → ⊥)
      (resumes : (k : K) (i : I) (t : Tree I O K) → Resumes k i t → OfKin w value kin t) where
    mutual
      pub move_kin : {t u : Tree I O K} → Move Grows Resumes t u → OfKin w value kin t → OfKin w value kin u
      move_kin (grow {o = o} {t = t} g) h = absurd (none_grows o t g)
      move_kin single h = h.0
      move_kin drop_front h = h.2
      move_kin no_arms h = tt
      move_kin over_empty h = tt
      move_kin (commit s) h = (h.0, h.1)
      move_kin (cuts c) h = (cuts_kin c h.0, h.1)
      move_kin (push {ts = ts} {k = k}) h = pushed_kin k ts h.1 h.0
      move_kin (resume {i = i} {k = k} {t = t} r) h = resumes k i t r
      move_kin (in_cat m) h = moves_kin m h
      move_kin (in_first m) h = arm_moves_kin m h
      move_kin (in_then m) h = (move_kin m h.0, h.1)

      moves_kin : {ts us : Trees I O K} → Moves Grows Resumes ts us → AllOfKin w value kin ts → AllOfKin w value kin us
      moves_kin (splice {ts = ts} {us = us}) h = join_kin ts us h.0 h.1
      moves_kin (here m) h = (move_kin m h.0, h.1)
      moves_kin (later m) h = (h.0, moves_kin m h.1)

      arm_moves_kin : {xs ys : Arms I O K} → ArmMoves Grows Resumes xs ys → ArmsOfKin w value kin xs → ArmsOfKin w value kin ys
      arm_moves_kin (arm_here m) h = (move_kin m h.0, h.1, h.2)
      arm_moves_kin (arm_later m) h = (h.0, h.1, arm_moves_kin m h.2)

    -- the tree and the released items of a state
    abbrev pub StateKin : State I O K → Type 0
    StateKin s = OfKin w value kin s.tree × All (λ i. w.kin_of_item i ≡ kin) s.released

    step_kin : (limit : ℕ) {s t : State I O K} → Step Grows Resumes limit s t → StateKin s → StateKin t
    step_kin limit (move m) h = (move_kin m h.0, h.1)
    step_kin limit (release_root {rs = rs} {i = i} room) h = (tt, All-push (λ x. w.kin_of_item x ≡ kin) rs i h.1 h.0)
    step_kin limit (release_first {rs = rs} {i = i} room) h = (h.0.1, All-push (λ x. w.kin_of_item x ≡ kin) rs i h.1 h.0.0)
    step_kin limit (stop full some) h = (tt, h.1)

    pub run_kin : (limit : ℕ) {s t : State I O K} → Star (Step Grows Resumes limit) s t → StateKin s → StateKin t
    run_kin limit done h = h
    run_kin limit (next step run) h = run_kin limit run (step_kin limit step h)

-- the kin of a tree with each open place replaced by another
module _ {B I O P K M : Type 0} (w : Sense B I K M) (f : O → P) (value : P → B) (kin : ℕ) where
  mutual
    pub kin_over : (t : Tree I O K) → OfKin w (λ o. value (f o)) kin t → OfKin w value kin (over f t)
    kin_over (Item i) h = h
    kin_over (Open o) h = h
    kin_over (Cat ts) h = all_kin_over ts h
    kin_over (First one arms) h = arms_kin_over arms h
    kin_over (Then one t k) h = (kin_over t h.0, h.1)

    all_kin_over : (ts : Trees I O K) → AllOfKin w (λ o. value (f o)) kin ts → AllOfKin w value kin (all_over f ts)
    all_kin_over none h = h
    all_kin_over (more t ts) h = (kin_over t h.0, all_kin_over ts h.1)

    arms_kin_over : (arms : Arms I O K) → ArmsOfKin w (λ o. value (f o)) kin arms → ArmsOfKin w value kin (arms_over f arms)
    arms_kin_over no_arm h = h
    arms_kin_over (arm t k arms) h = (kin_over t h.0, h.1, arms_kin_over arms h.2)

  mutual
    pub kin_under : (t : Tree I O K) → OfKin w value kin (over f t) → OfKin w (λ o. value (f o)) kin t
    kin_under (Item i) h = h
    kin_under (Open o) h = h
    kin_under (Cat ts) h = all_kin_under ts h
    kin_under (First one arms) h = arms_kin_under arms h
    kin_under (Then one t k) h = (kin_under t h.0, h.1)

    all_kin_under : (ts : Trees I O K) → AllOfKin w value kin (all_over f ts) → AllOfKin w (λ o. value (f o)) kin ts
    all_kin_under none h = h
    all_kin_under (more t ts) h = (kin_under t h.0, all_kin_under ts h.1)

    arms_kin_under : (arms : Arms I O K) → ArmsOfKin w value kin (arms_over f arms) → ArmsOfKin w (λ o. value (f o)) kin arms
    arms_kin_under no_arm h = h
    arms_kin_under (arm t k arms) h = (kin_under t h.0, h.1, arms_kin_under arms h.2)
