-- Placing a tree is one step of growing, at the leftmost place.
use Rattle.std.specs.Prelude.{◌≡◌, Bool, true, false, refl, Option, Some, None, is_some, if◌then◌else◌}
use Rattle.std.proofs.Common.{◌∙◌}
use Rattle.elan_tree.specs.Tree.{Tree, Item, Open, Cat, First, Then, Trees, none, more, Arms, no_arm, arm}
use Rattle.elan_tree.specs.Places.{or_else, first_at, any_first, arm_first, has, put, put_all, put_arms}
use Rattle.elan_tree.specs.Moves.{Move, grow, in_cat, in_first, in_then, Moves, here, later, ArmMoves, arm_here, arm_later}
use Rattle.elan_tree.proofs.Finding.{some_has}

or_first : {A : Type 0} (a b : Option A) (p : A) → or_else a b ≡ Some p → is_some a ≡ true → a ≡ Some p
or_first None b p e h = absurd (cc h)
or_first (Some x) b p e h = e

or_second : {A : Type 0} (a b : Option A) (p : A) → or_else a b ≡ Some p → is_some a ≡ false → b ≡ Some p
or_second None b p e h = e
or_second (Some x) b p e h = absurd (cc h)

some_inj : {A : Type 0} (a b : A) → Some a ≡ Some b → a ≡ b
some_inj a b e = cc e

module _ {I O K : Type 0} (test : O → Bool) (u : Tree I O K) (p : O) (Resumes : K → I → Tree I O K → Type 0) where
  -- the open place p becomes u, and no other place grows
  abbrev Lands : O → Tree I O K → Type 0
  Lands o v = (o ≡ p) × (v ≡ u)

  here_move : (b : Bool) (o : O) → (if b then Some o else None) ≡ Some p → Move Lands Resumes (Open o) (if b then u else Open o)
  here_move true o e = grow (some_inj o p e, refl)
  here_move false o e = absurd (cc e)

  all_move : (b : Bool) (t t' : Tree I O K) (ts ts' : Trees I O K) → (b ≡ true → Move Lands Resumes t t') → (b ≡ false → Moves Lands Resumes ts ts')
      → Moves Lands Resumes (more t ts) (if b then more t' ts else more t ts')
  all_move true t t' ts ts' h k = here (h refl)
  all_move false t t' ts ts' h k = later (k refl)

  arms_move : (b : Bool) (k : K) (t t' : Tree I O K) (xs ys : Arms I O K) → (b ≡ true → Move Lands Resumes t t') → (b ≡ false → ArmMoves Lands Resumes xs ys)
      → ArmMoves Lands Resumes (arm t k xs) (if b then arm t' k xs else arm t k ys)
  arms_move true k t t' xs ys h l = arm_here (h refl)
  arms_move false k t t' xs ys h l = arm_later (l refl)

  mutual
    pub put_move : (t : Tree I O K) → first_at test t ≡ Some p → Move Lands Resumes t (put test u t)
    put_move (Item i) e = absurd (cc e)
    put_move (Open o) e = here_move (test o) o e
    put_move (Cat ts) e = in_cat (put_all_move ts e)
    put_move (First one arms) e = in_first (put_arms_move arms e)
    put_move (Then one t k) e = in_then (put_move t e)

    put_all_move : (ts : Trees I O K) → any_first test ts ≡ Some p → Moves Lands Resumes ts (put_all test u ts)
    put_all_move none e = absurd (cc e)
    put_all_move (more t ts) e =
        all_move (has test t) t (put test u t) ts (put_all test u ts) (λ b. put_move t (or_first (first_at test t) (any_first test ts) p e (some_has test t ∙ b)))
        (λ b. put_all_move ts (or_second (first_at test t) (any_first test ts) p e (some_has test t ∙ b)))

    put_arms_move : (arms : Arms I O K) → arm_first test arms ≡ Some p → ArmMoves Lands Resumes arms (put_arms test u arms)
    put_arms_move no_arm e = absurd (cc e)
    put_arms_move (arm t k arms) e =
        arms_move (has test t) k t (put test u t) arms (put_arms test u arms) (λ b. put_move t (or_first (first_at test t) (arm_first test arms) p e (some_has test t ∙ b)))
        (λ b. put_arms_move arms (or_second (first_at test t) (arm_first test arms) p e (some_has test t ∙ b)))
