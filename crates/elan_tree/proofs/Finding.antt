-- The place that is found.
use Rattle.std.specs.Prelude.{◌≡◌, ℕ, Bool, true, false, ◌||◌, ◌==◌, refl, Option, Some, None, IsSomeAnd, MatchOption, is_some, if◌then◌else◌}
use Rattle.std.specs.Option.{option_copied}
use Rattle.std.proofs.Common.{Bor, sym, ◌∙◌, ap, subst, arith}
use Rattle.std.proofs.lemmas.Bool.Decides.{nat_tests}
use Rattle.boxcar.specs.Table.{Where}
use Rattle.elan_tree.specs.Tree.{Tree, Item, Open, Cat, First, Then, Trees, none, more, Arms, no_arm, arm}
use Rattle.elan_tree.specs.Places.{or_else, numbered, first_at, any_first, arm_first, has, any_has, arm_has}
use Rattle.elan_tree.specs.Marks.{Place, at_place, unmarked, seen, plain}
use Rattle.elan_tree.proofs.Over.{has_over}

-- the place has the number
abbrev pub Found : {B : Type 0} → ℕ → Option (Place B) → Type 0
Found n None = Unit {0}
Found n (Some p) = p.spot.index ≡ n

module _ {B : Type 0} (n : ℕ) where
  found_or : (a b : Option (Place B)) → Found n a → Found n b → Found n (or_else a b)
  found_or None b h k = k
  found_or (Some p) b h k = h

  found_here : (p : Place B) (b : Bool) → at_place n p ≡ b → Found n (if b then Some p else None)
  found_here p true e = same_index p.spot.index e
    where
      same_index : (m : ℕ) → (m == n) ≡ true → m ≡ n
      same_index m f = grind (arith, nat_tests)
  found_here p false e = tt

module _ {B I K : Type 0} (n : ℕ) where
  mutual
    pub found : (t : Tree I (Place B) K) → Found n (first_at (at_place n) t)
    found (Item i) = tt
    found (Open p) = found_here n p (at_place n p) refl
    found (Cat ts) = any_found ts
    found (First one arms) = arm_found arms
    found (Then one t k) = found t

    pub any_found : (ts : Trees I (Place B) K) → Found n (any_first (at_place n) ts)
    any_found none = tt
    any_found (more t ts) = found_or n (first_at (at_place n) t) (any_first (at_place n) ts) (found t) (any_found ts)

    pub arm_found : (arms : Arms I (Place B) K) → Found n (arm_first (at_place n) arms)
    arm_found no_arm = tt
    arm_found (arm t k arms) = found_or n (first_at (at_place n) t) (arm_first (at_place n) arms) (found t) (arm_found arms)

  pub found_at : (t : Tree I (Place B) K) (p : Place B) → Some p ≡ first_at (at_place n) t → p.spot.index ≡ n
  found_at t p e = subst (Found n) (sym e) (found t)

pub named_by : {B : Type 0} (o : Option (Place B)) (p : Place B) (s : Where B) → Some p ≡ o → s ≡ p.spot → IsSomeAnd o (λ q. q.spot ≡ s)
named_by {B} o p s e f =
    let P : Option (Place B) → Type 0 = λ x. IsSomeAnd x (λ q. q.spot ≡ s) in
    subst P e (sym f)

some_or : {A : Type 0} (a b : Option A) → is_some (or_else a b) ≡ (is_some a || is_some b)
some_or None b = refl
some_or (Some x) b = refl

some_if : {A : Type 0} (b : Bool) (a : A) → is_some (if b then Some a else None) ≡ b
some_if true a = refl
some_if false a = refl

some_true : {A : Type 0} (o : Option A) (P : A → Type 0) → IsSomeAnd o P → is_some o ≡ true
some_true None P h = absurd h
some_true (Some p) P h = refl

module _ {I O K : Type 0} (here : O → Bool) where
  mutual
    pub some_has : (t : Tree I O K) → is_some (first_at here t) ≡ has here t
    some_has (Item i) = refl
    some_has (Open p) = some_if (here p) p
    some_has (Cat ts) = any_some ts
    some_has (First one arms) = arm_some arms
    some_has (Then one t k) = some_has t

    any_some : (ts : Trees I O K) → is_some (any_first here ts) ≡ any_has here ts
    any_some none = refl
    any_some (more t ts) = some_or (first_at here t) (any_first here ts) ∙ λ j. some_has t j || any_some ts j

    arm_some : (arms : Arms I O K) → is_some (arm_first here arms) ≡ arm_has here arms
    arm_some no_arm = refl
    arm_some (arm t k arms) = some_or (first_at here t) (arm_first here arms) ∙ λ j. some_has t j || arm_some arms j

  pub none_has : (t : Tree I O K) → first_at here t ≡ None → has here t ≡ false
  none_has t e = sym (some_has t) ∙ ap is_some e

  pub some_then_has : (t : Tree I O K) (P : O → Type 0) → IsSomeAnd (first_at here t) P → has here t ≡ true
  some_then_has t P h = sym (some_has t) ∙ some_true (first_at here t) P h

-- what was placed stands, where there was a place
pub must_stand : {X : Type 0} (r : Option X) (b : Bool) (P : Type 0) (Q : X → Type 0) (R : X → Type 0) → MatchOption r ((b ≡ true) × P) (λ x. Q x × (b ≡ false) × R x) → b ≡ true → P
must_stand None b P Q R h e = h.1
must_stand (Some x) b P Q R h e = absurd (cc (e, h.1))

pub some_copied : {A : Type 0} (o : Option (Bor A)) → is_some (option_copied o) ≡ is_some o
some_copied None = refl
some_copied (Some x) = refl

-- clearing marks keeps the places
pub has_unmarked : {B I K : Type 0} (n : ℕ) (t : Tree I (Place B) K) → has (at_place n) (unmarked t) ≡ has (at_place n) t
has_unmarked {B} n t = has_over seen (at_place n) (plain t) ∙ has_over (λ (p : Place B). p.spot) (numbered n) t
