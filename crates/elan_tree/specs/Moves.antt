-- The steps of the core.
use Rattle.std.specs.Prelude.{◌≡◌, ◌≢◌, ℕ, ◌<◌, List, [], ◌∷◌, ◌++◌, length, Bool, true, false}
use Rattle.elan_tree.specs.Tree.{Tree, Item, Open, Cat, First, Then, Trees, none, more, Arms, no_arm, arm}
use Rattle.elan_tree.specs.Listing.{sure}

-- one list of trees after the other
abbrev pub join : {I O K : Type 0} → Trees I O K → Trees I O K → Trees I O K
join none us = us
join (more t ts) us = more t (join ts us)

-- each tree under a `Then` of its own
abbrev pub pushed : {I O K : Type 0} → K → Trees I O K → Trees I O K
pushed k none = none
pushed k (more t ts) = more (Then false t k) (pushed k ts)

-- the children to the right of the first sure one go, where there are any
pub data Cuts {I O K : Type 0} : Trees I O K → Trees I O K → Type 0 where
  cut_here : {t u : Tree I O K} {ts : Trees I O K} → sure t ≡ true → Cuts (more t (more u ts)) (more t none)
  cut_later : {t : Tree I O K} {ts us : Trees I O K} → sure t ≡ false → Cuts ts us → Cuts (more t ts) (more t us)

-- One step inside a tree: of the kinds tidy, commit, cut, push and resume, and of the kind grow where `Grows` has a pair.
-- `Resumes k i t`: a `Then` over the item i with the continuation k may become t. `Grows o t`: the open place o may become t.
mutual
  pub data Move {I O K : Type 0} (Grows : O → Tree I O K → Type 0) (Resumes : K → I → Tree I O K → Type 0) : Tree I O K → Tree I O K → Type 0 where
    -- grow: an open place becomes a tree
    grow : {o : O} {t : Tree I O K} → Grows o t → Move Grows Resumes (Open o) t
    -- tidy: a `Cat` of one child becomes that child, an empty `Cat` leaves the front of a `First`,
    -- and a `First` without alternatives or a `Then` over the empty `Cat` becomes the empty `Cat`
    single : {t : Tree I O K} → Move Grows Resumes (Cat (more t none)) t
    drop_front : {one : Bool} {k : K} {arms : Arms I O K} → Move Grows Resumes (First one (arm (Cat none) k arms)) (First one arms)
    no_arms : {one : Bool} → Move Grows Resumes (First one no_arm) (Cat none)
    over_empty : {one : Bool} {k : K} → Move Grows Resumes (Then one (Cat none) k) (Cat none)
    -- commit: a `First` whose first alternative is sure becomes a `Then` over it, and the others go
    commit : {one : Bool} {t : Tree I O K} {k : K} {arms : Arms I O K} → sure t ≡ true → Move Grows Resumes (First one (arm t k arms)) (Then one t k)
    -- cut: under a `Then` with `one`, what stands to the right of the first sure child goes
    cuts : {ts us : Trees I O K} {k : K} → Cuts ts us → Move Grows Resumes (Then true (Cat ts) k) (Then true (Cat us) k)
    -- push: a `Then` without `one` over a `Cat` becomes a `Cat` of `Then`s
    push : {ts : Trees I O K} {k : K} → Move Grows Resumes (Then false (Cat ts) k) (Cat (pushed k ts))
    -- resume: a `Then` over an item becomes what its continuation makes of the item
    resume : {one : Bool} {i : I} {k : K} {t : Tree I O K} → Resumes k i t → Move Grows Resumes (Then one (Item i) k) t
    -- a step anywhere inside
    in_cat : {ts us : Trees I O K} → Moves Grows Resumes ts us → Move Grows Resumes (Cat ts) (Cat us)
    in_first : {one : Bool} {xs ys : Arms I O K} → ArmMoves Grows Resumes xs ys → Move Grows Resumes (First one xs) (First one ys)
    in_then : {one : Bool} {t u : Tree I O K} {k : K} → Move Grows Resumes t u → Move Grows Resumes (Then one t k) (Then one u k)

  -- a step in one of the children of a `Cat`, or with one of them
  pub data Moves {I O K : Type 0} (Grows : O → Tree I O K → Type 0) (Resumes : K → I → Tree I O K → Type 0) : Trees I O K → Trees I O K → Type 0 where
    -- tidy: a `Cat` in a `Cat` is spliced in
    splice : {ts us : Trees I O K} → Moves Grows Resumes (more (Cat ts) us) (join ts us)
    here : {t u : Tree I O K} {ts : Trees I O K} → Move Grows Resumes t u → Moves Grows Resumes (more t ts) (more u ts)
    later : {t : Tree I O K} {ts us : Trees I O K} → Moves Grows Resumes ts us → Moves Grows Resumes (more t ts) (more t us)

  -- a step in one of the alternatives of a `First`
  pub data ArmMoves {I O K : Type 0} (Grows : O → Tree I O K → Type 0) (Resumes : K → I → Tree I O K → Type 0) : Arms I O K → Arms I O K → Type 0 where
    arm_here : {t u : Tree I O K} {k : K} {arms : Arms I O K} → Move Grows Resumes t u → ArmMoves Grows Resumes (arm t k arms) (arm u k arms)
    arm_later : {t : Tree I O K} {k : K} {xs ys : Arms I O K} → ArmMoves Grows Resumes xs ys → ArmMoves Grows Resumes (arm t k xs) (arm t k ys)

-- what was released, and the tree
pub record State (I O K : Type 0) : Type 0 where
  pub released : List I
  pub tree : Tree I O K

-- One step of the core with a limit
pub data Step {I O K : Type 0} (Grows : O → Tree I O K → Type 0) (Resumes : K → I → Tree I O K → Type 0) (limit : ℕ) : State I O K → State I O K → Type 0 where
  move : {rs : List I} {t u : Tree I O K} → Move Grows Resumes t u → Step Grows Resumes limit record { released = rs; tree = t } record { released = rs; tree = u }
  -- release: with room under the limit, the item that is the root, or the first child of the root, leaves the tree
  release_root : {rs : List I} {i : I} → length rs < limit
      → Step Grows Resumes limit record { released = rs; tree = Item i } record { released = rs ++ i ∷ []; tree = Cat none }
  release_first : {rs : List I} {i : I} {ts : Trees I O K} → length rs < limit
      → Step Grows Resumes limit record { released = rs; tree = Cat (more (Item i) ts) } record { released = rs ++ i ∷ []; tree = Cat ts }
  -- stop: at the limit a tree that is not empty goes
  stop : {rs : List I} {t : Tree I O K} → length rs ≡ limit → t ≢ Cat none
      → Step Grows Resumes limit record { released = rs; tree = t } record { released = rs; tree = Cat none }

-- a list of steps of a relation
pub data Star {A : Type 0} (R : A → A → Type 0) : A → A → Type 0 where
  done : {x : A} → Star R x x
  next : {x y z : A} → R x y → Star R y z → Star R x z
