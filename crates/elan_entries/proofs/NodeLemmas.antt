-- A pattern that is known as a whole: its arguments weigh less, and the test of equality by its cases.
use Rattle.std.proofs.Common.{◌≡◌, ◌≢◌, refl, sym, ap, ◌∙◌, ◌+◌, ◌<◌, ℕ, ℤ, false, ◌&&◌, ◌==◌, List, [], ◌∷◌, map, arith}
use Rattle.std.specs.Ordering.{int_eq}
use Rattle.elan_terms.specs.declared.tree.OpId.{OpId}
use Rattle.elan_terms.specs.declared.tree.SortId.{SortId}
use Rattle.elan_terms.specs.declared.tree.Pattern.{Pattern}
use Rattle.elan_terms.specs.declared.tree.PatternNode.{items_hidden-the_row-Pattern-0}
use Rattle.elan_terms.specs.Weight.{pattern_weight, pattern_weights}
use Rattle.elan_terms.proofs.TreeLemmas.{fold_pattern-app}
use Rattle.elan_terms.proofs.WeightLemmas.{pattern_weight-app}
use Rattle.elan_entries.proofs.SameLemmas.{nat_self}
use Rattle.elan_program.specs.Extension.{var_pattern, int_pattern, app_pattern}
use Rattle.elan_entries.specs.Trees.{same, same_var, same_int, same_app, same_all, each}

-- the arguments together weigh less than the whole
pub args_fall : (t : Pattern) (op : OpId) (ts : List Pattern) (n : ℕ) → pattern_weight t ≡ n → t ≡ app_pattern op ts → pattern_weights ts < n
args_fall t op ts n w e = let one : pattern_weight t ≡ 1 + pattern_weights ts = pattern_weight-app t op ts (ap (λ u. u.node) e) in omega arith

module _ (t u : Pattern) where
  pub same-vars : (x y : ℕ) (s r : SortId) → t ≡ var_pattern x s → u ≡ var_pattern y r → same t u ≡ (x == y && s.0 == r.0)
  unfolding same
  same-vars x y s r e f = ap (λ v. same v u) e ∙ ap (λ v. same (var_pattern x s) v) f

  pub same-ints : (x y : ℤ) → t ≡ int_pattern x → u ≡ int_pattern y → same t u ≡ int_eq x y
  unfolding same
  same-ints x y e f = ap (λ v. same v u) e ∙ ap (λ v. same (int_pattern x) v) f

  pub same-var_int : (x : ℕ) (s : SortId) (y : ℤ) → t ≡ var_pattern x s → u ≡ int_pattern y → same t u ≡ false
  unfolding same
  same-var_int x s y e f = ap (λ v. same v u) e ∙ ap (λ v. same (var_pattern x s) v) f

  pub same-int_var : (x : ℤ) (y : ℕ) (r : SortId) → t ≡ int_pattern x → u ≡ var_pattern y r → same t u ≡ false
  unfolding same
  same-int_var x y r e f = ap (λ v. same v u) e ∙ ap (λ v. same (int_pattern x) v) f

  pub same-var_app : (x : ℕ) (s : SortId) (g : OpId) (us : List Pattern) → t ≡ var_pattern x s → u ≡ app_pattern g us → same t u ≡ false
  unfolding same
  same-var_app x s g us e f = ap (λ v. same v u) e ∙ ap (λ v. same (var_pattern x s) v) f

  pub same-int_app : (x : ℤ) (g : OpId) (us : List Pattern) → t ≡ int_pattern x → u ≡ app_pattern g us → same t u ≡ false
  unfolding same
  same-int_app x g us e f = ap (λ v. same v u) e ∙ ap (λ v. same (int_pattern x) v) f

nat_other : (m n : ℕ) → m ≢ n → (m == n) ≡ false
nat_other m n h = grind arith

by_same : (ts us : List Pattern) → each (map same ts) us ≡ same_all ts us
by_same [] [] = refl
by_same [] (u ∷ us) = refl
by_same (t ∷ ts) [] = refl
by_same (t ∷ ts) (u ∷ us) = ap (λ b. same t u && b) (by_same ts us)

same-app : (f : OpId) (ts : List Pattern) (u : Pattern) → same (app_pattern f ts) u ≡ same_app f (map same ts) u
unfolding same
same-app f ts u = ap (λ test. test u) (fold_pattern-app same_var same_int same_app f ts)

module _ (t u : Pattern) where
  pub same-apps : (f g : OpId) (ts us : List Pattern) → t ≡ app_pattern f ts → u ≡ app_pattern g us → same t u ≡ (f.0 == g.0 && same_all ts us)
  same-apps f g ts us e e' =
      ap (λ v. same v u) e ∙ same-app f ts u ∙ ap (λ v. same_app f (map same ts) v) e'
      ∙ ap (λ vs. f.0 == g.0 && each (map same ts) vs) (items_hidden-the_row-Pattern-0 us) ∙ ap (λ b. f.0 == g.0 && b) (by_same ts us)

  pub same-app_var : (f : OpId) (ts : List Pattern) (y : ℕ) (r : SortId) → t ≡ app_pattern f ts → u ≡ var_pattern y r → same t u ≡ false
  same-app_var f ts y r e e' = ap (λ v. same v u) e ∙ same-app f ts u ∙ ap (λ v. same_app f (map same ts) v) e'

  pub same-app_int : (f : OpId) (ts : List Pattern) (y : ℤ) → t ≡ app_pattern f ts → u ≡ int_pattern y → same t u ≡ false
  same-app_int f ts y e e' = ap (λ v. same v u) e ∙ same-app f ts u ∙ ap (λ v. same_app f (map same ts) v) e'

  pub same-apps_yes : (f g : OpId) (ts us : List Pattern) → t ≡ app_pattern f ts → u ≡ app_pattern g us → f.0 ≡ g.0 → same t u ≡ same_all ts us
  same-apps_yes f g ts us e e' h = same-apps f g ts us e e' ∙ ap (λ b. b && same_all ts us) (ap (λ n. f.0 == n) (sym h) ∙ nat_self f.0)

  pub same-apps_no : (f g : OpId) (ts us : List Pattern) → t ≡ app_pattern f ts → u ≡ app_pattern g us → f.0 ≢ g.0 → same t u ≡ false
  same-apps_no f g ts us e e' h = same-apps f g ts us e e' ∙ ap (λ b. b && same_all ts us) (nat_other f.0 g.0 h)
