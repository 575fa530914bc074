-- Lists of steps, joined and carried along.
use Rattle.std.specs.Prelude.{Bool}
use Rattle.elan_tree.specs.Tree.{Tree, Cat, First, Then, Trees, more, Arms, arm}
use Rattle.elan_tree.specs.Moves.{Star, done, next, Move, Moves, ArmMoves, in_cat, in_first, in_then, here, later, arm_here, arm_later}

module _ {A : Type 0} {R : A → A → Type 0} where
  pub star_one : {x y : A} → R x y → Star R x y
  star_one r = next r done

  pub star_trans : {x y z : A} → Star R x y → Star R y z → Star R x z
  star_trans done t = t
  star_trans (next r s) t = next r (star_trans s t)

module _ {A B : Type 0} {R : A → A → Type 0} {S : B → B → Type 0} (f : A → B) (h : (x y : A) → R x y → S (f x) (f y)) where
  pub star_map : {x y : A} → Star R x y → Star S (f x) (f y)
  star_map done = done
  star_map (next {x = x} {y = y} r s) = next (h x y r) (star_map s)

module _ {I O K : Type 0} {Grows : O → Tree I O K → Type 0} {Resumes : K → I → Tree I O K → Type 0} where
  pub stars_cat : {ts us : Trees I O K} → Star (Moves Grows Resumes) ts us → Star (Move Grows Resumes) (Cat ts) (Cat us)
  stars_cat s = star_map Cat (λ x y m. in_cat m) s

  pub stars_first : (one : Bool) {xs ys : Arms I O K} → Star (ArmMoves Grows Resumes) xs ys → Star (Move Grows Resumes) (First one xs) (First one ys)
  stars_first one s = star_map (First one) (λ x y m. in_first m) s

  pub stars_then : (one : Bool) (k : K) {t u : Tree I O K} → Star (Move Grows Resumes) t u → Star (Move Grows Resumes) (Then one t k) (Then one u k)
  stars_then one k s = star_map (λ t. Then one t k) (λ x y m. in_then m) s

  pub stars_here : (ts : Trees I O K) {t u : Tree I O K} → Star (Move Grows Resumes) t u → Star (Moves Grows Resumes) (more t ts) (more u ts)
  stars_here ts s = star_map (λ t. more t ts) (λ x y m. here m) s

  pub stars_later : (t : Tree I O K) {ts us : Trees I O K} → Star (Moves Grows Resumes) ts us → Star (Moves Grows Resumes) (more t ts) (more t us)
  stars_later t s = star_map (more t) (λ x y m. later m) s

  pub stars_arm : (k : K) (arms : Arms I O K) {t u : Tree I O K} → Star (Move Grows Resumes) t u → Star (ArmMoves Grows Resumes) (arm t k arms) (arm u k arms)
  stars_arm k arms s = star_map (λ t. arm t k arms) (λ x y m. arm_here m) s

  pub stars_arm_later : (t : Tree I O K) (k : K) {xs ys : Arms I O K} → Star (ArmMoves Grows Resumes) xs ys → Star (ArmMoves Grows Resumes) (arm t k xs) (arm t k ys)
  stars_arm_later t k s = star_map (arm t k) (λ x y m. arm_later m) s
