-- What a canonical node is made of, what terms bring under an operator, and how deep a node is.
use Rattle.std.proofs.Common.{◌≡◌, refl, sym, ap, ◌∙◌, subst, ◌⊎◌, ⊎_elim, ℕ, zero, suc, ◌+◌, ◌≤◌, ◌<◌, max, Bool, true, false, cond, ◌==◌, ℤ, List, [], ◌∷◌, ◌++◌, length, map, take, slice_get, Some, None, All, flat_map, IsTrue, arith}
use Rattle.std.proofs.lemmas.Bool.{cases_lt, eq-eqb, ne_eqb}
use Rattle.std.proofs.lemmas.List.{map_push}
use Rattle.boxcar.specs.Table.{Where}
use Rattle.elan_terms.specs.declared.tree.OpId.{OpId}
use Rattle.elan_terms.specs.declared.tree.Term.{Term}
use Rattle.elan_terms.specs.declared.tree.Shapes.{Shapes}
use Rattle.elan_terms.specs.Trees.{case_term, int_term, app_term}
use Rattle.elan_terms.specs.Term.{depth, greatest, is_ac, arms_under, ascending, node, canon}
use Rattle.elan_terms.proofs.TreeLemmas.{case_term-app}
use Rattle.elan_terms.proofs.TermLemmas.{depth-app, arms-int, arms-app}
use Rattle.elan_terms.specs.Valid.{IsNumber, IsAllowed, IsValid}
use Rattle.elan_terms.specs.Canonical.{IsSettled, IsCanonical}
use Rattle.elan_terms.proofs.Lists.{AllOf, all_from, all_map, mapped_itself}
use Rattle.elan_terms.proofs.Induction.{cases_term}
use Rattle.elan_terms.proofs.NodeLemmas.{throughout_app, app_throughout}
use Rattle.elan_terms.proofs.Sorting.{not_true}
use Rattle.elan_laws.proofs.CanonicalLaws.{canon-of_app, canon-canonical, canonical-canon, canon-valid, node-ac, node-plain}
use Rattle.elan_shared.specs.Nodes.{arguments}
use Rattle.elan_shared.proofs.NodeLemmas.{arguments-app}
use Rattle.elan_table.specs.declared.node.Node.{Node}
use Rattle.elan_table.specs.declared.node.Node.TheVariants.{Int, App}
use Rattle.elan_table.specs.Rows.{MayStand, terms}
use Rattle.elan_table.specs.Nodes.{node_of, MayMake}
use Rattle.elan_table.proofs.Conditions.{all_terms}
use Rattle.elan_table.proofs.Depths.{shallow}
use Rattle.elan_ac.specs.declared.node.Built.{Built}
use Rattle.elan_ac.specs.Built.{IsBuilt}

-- ---- the arguments, one after the other

none_some : {X : Type 0} {x : X} → None ≡ Some x → ⊥
none_some e = cc

some_same : {X : Type 0} {x y : X} → Some x ≡ Some y → x ≡ y
some_same e = cc

-- one argument more
pub take_next : (ts : List Term) (i : ℕ) (t : Term) → slice_get ts i ≡ Some t → take (i + 1) ts ≡ take i ts ++ t ∷ []
take_next [] i t e = absurd (none_some e)
take_next (u ∷ us) zero t e = ap (λ x. x ∷ []) (some_same e)
take_next (u ∷ us) (suc i) t e =
    let n : suc i + 1 ≡ suc (i + 1) = omega arith in ap (λ m. take m (u ∷ us)) n ∙ ap (λ l. u ∷ l) (take_next us i t e)

-- a row more
pub terms_push : (ws : List (Where Term)) (w : Where Term) (t : Term) → w.value ≡ t → terms (ws ++ w ∷ []) ≡ terms ws ++ t ∷ []
terms_push ws w t e = map_push (λ (v : Where Term). v.value) ws w ∙ ap (λ u. terms ws ++ u ∷ []) e

-- ---- what a term brings under an operator

-- the number of the operator, or 0
abbrev op_of : Node → ℕ
op_of (Int z) = 0
op_of (App f n) = f.0

-- the number of arguments, or 0
abbrev many_of : Node → ℕ
many_of (Int z) = 0
many_of (App f n) = n

no_app : {f : OpId} {n : ℕ} {z : ℤ} → App f n ≡ Int z → ⊥
no_app e = cc

node_of-int : (z : ℤ) → node_of (int_term z) ≡ Int z
unfolding node_of
node_of-int z = refl

node_of-app : (f : OpId) (ts : List Term) → node_of (app_term f ts) ≡ App f (length ts)
unfolding node_of
node_of-app f ts = case_term-app (λ z. Int z) (λ op ts. App op (length ts)) f ts

-- the number of arguments
pub node-length : (t : Term) (f : OpId) (n : ℕ) → App f n ≡ node_of t → n ≡ length (arguments t)
node-length t f n = cases_term (λ u. App f n ≡ node_of u → n ≡ length (arguments u))
    (λ z e. absurd (no_app (e ∙ node_of-int z)))
    (λ g ts e. ap many_of (e ∙ node_of-app g ts) ∙ sym (ap length (arguments-app (app_term g ts) g ts refl)))
    t

-- a term that is headed by the operator brings its arguments
arms-headed_by : (op : OpId) (t : Term) (f : OpId) (n : ℕ) → App f n ≡ node_of t → (op.0 == f.0) ≡ true → arguments t ≡ arms_under op t
arms-headed_by op t f n = cases_term (λ u. App f n ≡ node_of u → (op.0 == f.0) ≡ true → arguments u ≡ arms_under op u)
    (λ z e h. absurd (no_app (e ∙ node_of-int z)))
    (λ g ts e h. arguments-app (app_term g ts) g ts refl
    ∙ ap (λ b. cond b ts (app_term g ts ∷ [])) (sym h ∙ ap (λ m. op.0 == m) (ap op_of (e ∙ node_of-app g ts)))
    ∙ sym (arms-app op (app_term g ts) g ts refl))
    t

pub arms-headed : (op : OpId) (t : Term) (f : OpId) (n : ℕ) → App f n ≡ node_of t → op.0 ≡ f.0 → arguments t ≡ arms_under op t
arms-headed op t f n e same = arms-headed_by op t f n e (eq-eqb op.0 f.0 same)

-- another application brings itself
arms-other_by : (op : OpId) (t : Term) (f : OpId) (n : ℕ) → App f n ≡ node_of t → (op.0 == f.0) ≡ false → t ∷ [] ≡ arms_under op t
arms-other_by op t f n = cases_term (λ u. App f n ≡ node_of u → (op.0 == f.0) ≡ false → u ∷ [] ≡ arms_under op u)
    (λ z e h. absurd (no_app (e ∙ node_of-int z)))
    (λ g ts e h. ap (λ b. cond b ts (app_term g ts ∷ [])) (sym h ∙ ap (λ m. op.0 == m) (ap op_of (e ∙ node_of-app g ts)))
    ∙ sym (arms-app op (app_term g ts) g ts refl))
    t

pub arms-other : (op : OpId) (t : Term) (f : OpId) (n : ℕ) → App f n ≡ node_of t → (op.0 ≡ f.0 → ⊥) → t ∷ [] ≡ arms_under op t
arms-other op t f n e other = arms-other_by op t f n e (ne_eqb op.0 f.0 other)

-- so does an integer
pub arms-integer : (op : OpId) (t : Term) (z : ℤ) → Int z ≡ node_of t → t ∷ [] ≡ arms_under op t
arms-integer op t z = cases_term (λ u. Int z ≡ node_of u → u ∷ [] ≡ arms_under op u)
    (λ y e. sym (arms-int op (int_term y) y refl))
    (λ g ts e. absurd (no_app (sym (e ∙ node_of-app g ts))))
    t

-- ---- the node

all_valid : (shapes : Shapes) (ts : List (Where Term)) → All (λ t. MayStand shapes t.value) ts → AllOf (IsValid shapes) (terms ts)
all_valid shapes [] h = tt
all_valid shapes (t ∷ ts) h = ((h 0 t (omega arith)).valid, all_valid shapes ts (λ k d lt. h (suc k) d (omega arith)))

all_itself : (shapes : Shapes) (ts : List (Where Term)) → All (λ t. MayStand shapes t.value) ts → AllOf (λ t. canon shapes t ≡ t) (terms ts)
all_itself shapes [] h = tt
all_itself shapes (t ∷ ts) h = (canonical-canon shapes t.value (h 0 t (omega arith)).canonical, all_itself shapes ts (λ k d lt. h (suc k) d (omega arith)))

module _ (shapes : Shapes) (op : OpId) (ws : List (Where Term)) (known : All (λ t. MayStand shapes t.value) ws) (fits : IsAllowed shapes op (terms ws)) where
  canon-node : canon shapes (app_term op (terms ws)) ≡ node shapes op (terms ws)
  canon-node = canon-of_app shapes op (terms ws) ∙ ap (node shapes op) (mapped_itself (canon shapes) (terms ws) (all_itself shapes ws known))

  node-valid : IsValid shapes (node shapes op (terms ws))
  node-valid = subst (IsValid shapes) canon-node (canon-valid shapes (app_term op (terms ws)) (app_throughout (IsNumber shapes) (IsAllowed shapes) op (terms ws) fits (all_valid shapes ws known)))

  node-canonical : IsCanonical shapes (node shapes op (terms ws))
  node-canonical = subst (IsCanonical shapes) canon-node (canon-canonical shapes (app_term op (terms ws)))

  module _ (ts : List Term) (is : node shapes op (terms ws) ≡ app_term op ts) where
    pub node-fits : IsAllowed shapes op ts
    node-fits = (throughout_app (IsNumber shapes) (IsAllowed shapes) op ts (subst (IsValid shapes) is node-valid)).0

    pub node-settled : IsSettled shapes op ts
    node-settled = (throughout_app (λ _. Unit {0}) (IsSettled shapes) op ts (subst (IsCanonical shapes) is node-canonical)).0

-- under an operator that is associative and commutative
pub node-arms : (shapes : Shapes) (op : OpId) (ts arms : List Term) → is_ac shapes op ≡ true → arms ≡ ascending (flat_map (arms_under op) ts) → node shapes op ts ≡ app_term op arms
node-arms shapes op ts arms ac e = node-ac shapes op ts ac ∙ ap (app_term op) (sym e)

-- under any other
pub node-others : (shapes : Shapes) (op : OpId) (ts : List Term) → is_ac shapes op ≡ false → node shapes op ts ≡ app_term op ts
node-others = node-plain

-- ---- its depth

lower_rows : (ws : List (Where Term)) → greatest (map depth (terms ws)) < 2000 → All (λ w. depth w.value < 2000) ws
lower_rows [] lt k d within = absurd (omega arith)
lower_rows (w ∷ ws) lt zero d within = omega arith
lower_rows (w ∷ ws) lt (suc k) d within = lower_rows ws (omega arith) k d (omega arith)

-- where some argument is too deep
pub too_deep : (op : OpId) (ws : List (Where Term)) → (All (λ w. depth w.value < 2000) ws → ⊥) → 2000 < depth (app_term op (terms ws))
too_deep op ws against =
    let here : depth (app_term op (terms ws)) ≡ 1 + greatest (map depth (terms ws)) = depth-app _ op (terms ws) refl in
    ⊎_elim (λ lt. absurd (against (lower_rows ws lt))) (λ le. omega arith) (cases_lt (greatest (map depth (terms ws))) 2000)

pub low_enough : (op : OpId) (ws : List (Where Term)) → All (λ w. depth w.value < 2000) ws → depth (app_term op (terms ws)) ≤ 2000
low_enough op ws h = shallow op (terms ws) (all_terms (λ t. depth t < 2000) ws h)

pub may : (shapes : Shapes) (op : OpId) (ws : List (Where Term)) → IsAllowed shapes op (terms ws) → IsSettled shapes op (terms ws) → All (λ w. depth w.value < 2000) ws → MayMake shapes op (terms ws)
may shapes op ws fits settled h = record { fits = fits; settled = settled; shallow = all_terms (λ t. depth t < 2000) ws h }
