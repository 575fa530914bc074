-- The search tree as plain data.
use Rattle.std.specs.Prelude.{◌≡◌, ◌≢◌, ℕ, ◌+◌, List, [], ◌∷◌, Bool, refl}
use Rattle.std.specs.Coded.{Coded, coded_bool}
use Rattle.std.proofs.Common.{ap, sym, subst, arith}
use base.Stored.{Gv, gnil, gnum, gcons}

mutual
  -- an item, an open place, trees one after the other, alternatives each with a continuation of which the first that has
  -- an item counts, or a continuation over a tree; the flag says that the first item alone is kept
  pub data Tree (I O K : Type 0) : Type 0 where
    Item : I → Tree I O K
    Open : O → Tree I O K
    Cat : Trees I O K → Tree I O K
    First : Bool → Arms I O K → Tree I O K
    Then : Bool → Tree I O K → K → Tree I O K

  -- a list of trees
  pub data Trees (I O K : Type 0) : Type 0 where
    none : Trees I O K
    more : Tree I O K → Trees I O K → Trees I O K

  -- a list of alternatives
  pub data Arms (I O K : Type 0) : Type 0 where
    no_arm : Arms I O K
    arm : Tree I O K → K → Arms I O K → Arms I O K

-- the list as trees
abbrev pub trees : {I O K : Type 0} → List (Tree I O K) → Trees I O K
trees [] = none
trees (t ∷ ts) = more t (trees ts)

-- how many nodes
abbrev mutual
  pub weight : {I O K : Type 0} → Tree I O K → ℕ
  weight (Item i) = 1
  weight (Open o) = 1
  weight (Cat ts) = 1 + weights ts
  weight (First one arms) = 1 + arms_weight arms
  weight (Then one t k) = 1 + weight t

  pub weights : {I O K : Type 0} → Trees I O K → ℕ
  weights none = 0
  weights (more t ts) = weight t + weights ts

  pub arms_weight : {I O K : Type 0} → Arms I O K → ℕ
  arms_weight no_arm = 0
  arms_weight (arm t k arms) = weight t + arms_weight arms

-- each open place becomes another
module _ {I O P K : Type 0} (f : O → P) where
  abbrev mutual
    pub over : Tree I O K → Tree I P K
    over (Item i) = Item i
    over (Open o) = Open (f o)
    over (Cat ts) = Cat (all_over ts)
    over (First one arms) = First one (arms_over arms)
    over (Then one t k) = Then one (over t) k

    pub all_over : Trees I O K → Trees I P K
    all_over none = none
    all_over (more t ts) = more (over t) (all_over ts)

    pub arms_over : Arms I O K → Arms I P K
    arms_over no_arm = no_arm
    arms_over (arm t k arms) = arm (over t) k (arms_over arms)

-- ---- a code, by which a value in a lock or behind a reference is told apart
abbrev first_of_pair : Gv → Gv
first_of_pair gnil = gnil
first_of_pair (gnum n) = gnil
first_of_pair (gcons a b) = a

abbrev rest_of_pair : Gv → Gv
rest_of_pair gnil = gnil
rest_of_pair (gnum n) = gnil
rest_of_pair (gcons a b) = b

abbrev number_of : Gv → ℕ
number_of gnil = 0
number_of (gnum n) = n
number_of (gcons a b) = 0

same_tag : (m n : ℕ) (x y : Gv) → gcons (gnum m) x ≡ gcons (gnum n) y → m ≡ n
same_tag m n x y p = ap (λ g. number_of (first_of_pair g)) p

same_rest : (m n : ℕ) (x y : Gv) → gcons (gnum m) x ≡ gcons (gnum n) y → x ≡ y
same_rest m n x y p = ap rest_of_pair p

differ : {A : Type 0} (m n : ℕ) (x y : Gv) → m ≢ n → gcons (gnum m) x ≡ gcons (gnum n) y → A
differ m n x y ne p = absurd (ne (same_tag m n x y p))

-- whether a code is a pair
abbrev IsPair : Gv → Type 0
IsPair gnil = ⊥
IsPair (gnum n) = ⊥
IsPair (gcons a b) = Unit {0}

not_pair : {A : Type 0} (x y : Gv) → gnil ≡ gcons x y → A
not_pair x y p = absurd (subst IsPair (sym p) tt)

module _ {I O K : Type 0} (item : Coded I) (place : Coded O) (then : Coded K) where
  -- the code of a tree
  mutual
    pub code_tree : Tree I O K → Gv
    code_tree (Item i) = gcons (gnum 0) (item.code i)
    code_tree (Open o) = gcons (gnum 1) (place.code o)
    code_tree (Cat ts) = gcons (gnum 2) (code_trees ts)
    code_tree (First one arms) = gcons (gnum 3) (gcons (coded_bool.code one) (code_arms arms))
    code_tree (Then one t k) = gcons (gnum 4) (gcons (coded_bool.code one) (gcons (code_tree t) (then.code k)))

    pub code_trees : Trees I O K → Gv
    code_trees none = gnil
    code_trees (more t ts) = gcons (code_tree t) (code_trees ts)

    pub code_arms : Arms I O K → Gv
    code_arms no_arm = gnil
    code_arms (arm t k arms) = gcons (code_tree t) (gcons (then.code k) (code_arms arms))

  mutual
    unfolding code_tree code_trees code_arms

    pub inj_tree : (x y : Tree I O K) → code_tree x ≡ code_tree y → x ≡ y
    inj_tree (Item i1) (Item i2) p = ap Item (item.inj i1 i2 (ap rest_of_pair p))
    inj_tree (Item i1) (Open o2) p = differ 0 1 _ _ (omega arith) p
    inj_tree (Item i1) (Cat ts2) p = differ 0 2 _ _ (omega arith) p
    inj_tree (Item i1) (First b2 as2) p = differ 0 3 _ _ (omega arith) p
    inj_tree (Item i1) (Then b2 t2 k2) p = differ 0 4 _ _ (omega arith) p
    inj_tree (Open o1) (Item i2) p = differ 1 0 _ _ (omega arith) p
    inj_tree (Open o1) (Open o2) p = ap Open (place.inj o1 o2 (ap rest_of_pair p))
    inj_tree (Open o1) (Cat ts2) p = differ 1 2 _ _ (omega arith) p
    inj_tree (Open o1) (First b2 as2) p = differ 1 3 _ _ (omega arith) p
    inj_tree (Open o1) (Then b2 t2 k2) p = differ 1 4 _ _ (omega arith) p
    inj_tree (Cat ts1) (Item i2) p = differ 2 0 _ _ (omega arith) p
    inj_tree (Cat ts1) (Open o2) p = differ 2 1 _ _ (omega arith) p
    inj_tree (Cat ts1) (Cat ts2) p = ap Cat (inj_trees ts1 ts2 (ap rest_of_pair p))
    inj_tree (Cat ts1) (First b2 as2) p = differ 2 3 _ _ (omega arith) p
    inj_tree (Cat ts1) (Then b2 t2 k2) p = differ 2 4 _ _ (omega arith) p
    inj_tree (First b1 as1) (Item i2) p = differ 3 0 _ _ (omega arith) p
    inj_tree (First b1 as1) (Open o2) p = differ 3 1 _ _ (omega arith) p
    inj_tree (First b1 as1) (Cat ts2) p = differ 3 2 _ _ (omega arith) p
    inj_tree (First b1 as1) (First b2 as2) p = λ j. First (coded_bool.inj b1 b2 (ap (λ g. first_of_pair (rest_of_pair g)) p) j) (inj_arms as1 as2 (ap (λ g. rest_of_pair (rest_of_pair g)) p) j)
    inj_tree (First b1 as1) (Then b2 t2 k2) p = differ 3 4 _ _ (omega arith) p
    inj_tree (Then b1 t1 k1) (Item i2) p = differ 4 0 _ _ (omega arith) p
    inj_tree (Then b1 t1 k1) (Open o2) p = differ 4 1 _ _ (omega arith) p
    inj_tree (Then b1 t1 k1) (Cat ts2) p = differ 4 2 _ _ (omega arith) p
    inj_tree (Then b1 t1 k1) (First b2 as2) p = differ 4 3 _ _ (omega arith) p
    inj_tree (Then b1 t1 k1) (Then b2 t2 k2) p = λ j. Then (coded_bool.inj b1 b2 (ap (λ g. first_of_pair (rest_of_pair g)) p) j) (inj_tree t1 t2 (ap (λ g. first_of_pair (rest_of_pair (rest_of_pair g))) p) j) (then.inj k1 k2 (ap (λ g. rest_of_pair (rest_of_pair (rest_of_pair g))) p) j)

    pub inj_trees : (x y : Trees I O K) → code_trees x ≡ code_trees y → x ≡ y
    inj_trees none none p = refl
    inj_trees (more t ts) (more u us) p = λ j. more (inj_tree t u (ap first_of_pair p) j) (inj_trees ts us (ap rest_of_pair p) j)
    inj_trees none (more u us) p = not_pair _ _ p
    inj_trees (more t ts) none p = not_pair _ _ (sym p)

    pub inj_arms : (x y : Arms I O K) → code_arms x ≡ code_arms y → x ≡ y
    inj_arms no_arm no_arm p = refl
    inj_arms (arm t k as1) (arm u l as2) p = λ j. arm (inj_tree t u (ap first_of_pair p) j) (then.inj k l (ap (λ g. first_of_pair (rest_of_pair g)) p) j) (inj_arms as1 as2 (ap (λ g. rest_of_pair (rest_of_pair g)) p) j)
    inj_arms no_arm (arm u l as2) p = not_pair _ _ p
    inj_arms (arm t k as1) no_arm p = not_pair _ _ (sym p)

  -- by this code trees are told apart
  abbrev pub tree_code : Coded (Tree I O K)
  tree_code = record { code = code_tree; inj = inj_tree }
