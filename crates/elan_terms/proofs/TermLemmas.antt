-- The equations of depth and order.
use Rattle.std.proofs.Common.{◌≡◌, refl, ap, sym, ◌∙◌, ℤ, suc, ◌+◌, List, [], ◌∷◌, map, length}
use Rattle.std.specs.Prelude.{if◌then◌else◌, ◌==◌}
use Rattle.std.specs.declared.cmp.Ordering.{Ordering}
use Rattle.std.specs.declared.cmp.Ordering.TheVariants.{Less, Equal, Greater}
use Rattle.std.specs.Ordering.{nat_cmp, int_cmp, ordering_then}
use Rattle.std.specs.Cmp.Lexicographic.{slice_cmp}
use Rattle.elan_terms.specs.declared.tree.OpId.{OpId}
use Rattle.elan_terms.specs.declared.tree.Term.{Term}
use Rattle.elan_terms.specs.declared.tree.TermNode.{Int, App}
use Rattle.elan_terms.specs.Trees.{int_term, app_term, case_node}
use Rattle.elan_terms.specs.declared.tree.Shapes.{Shapes}
use Rattle.elan_terms.specs.Term.{depth, greatest, order, int_order, app_order, arms_under, node, canon}
use Rattle.elan_terms.proofs.TreeLemmas.{fold_term-app, case_term-app}

pub depth-int : (t : Term) (z : ℤ) → t.node ≡ Int z → depth t ≡ 1
unfolding depth
depth-int t z e = ap (λ n. depth (record { node = n })) e

pub depth-app : (t : Term) (op : OpId) (args : List Term) → t.node ≡ App op args → depth t ≡ 1 + greatest (map depth args)
unfolding depth
depth-app t op args e = ap (λ n. depth (record { node = n })) e ∙ fold_term-app (λ _. 1) (λ _ ds. 1 + greatest ds) op args

pub ruleset depths = (depth-int, depth-app)

-- ---- order

pub order-int_int : (t u : Term) (x y : ℤ) → t.node ≡ Int x → u.node ≡ Int y → order t u ≡ int_cmp x y
unfolding order
order-int_int t u x y e f = ap (λ n. order (record { node = n }) u) e ∙ ap (λ n. order (int_term x) (record { node = n })) f

pub order-int_app : (t u : Term) (x : ℤ) (op : OpId) (us : List Term) → t.node ≡ Int x → u.node ≡ App op us → order t u ≡ Less
unfolding order
order-int_app t u x op us e f = ap (λ n. order (record { node = n }) u) e ∙ ap (λ n. order (int_term x) (record { node = n })) f

by_order : (ts us : List Term) → slice_cmp (λ before u. before u) (map order ts) us ≡ slice_cmp order ts us
by_order [] [] = refl
by_order [] (u ∷ us) = refl
by_order (t ∷ ts) [] = refl
by_order (t ∷ ts) (u ∷ us) = ap (ordering_then (order t u)) (by_order ts us)

mapped_length : {X Y : Type 0} (f : X → Y) (xs : List X) → length (map f xs) ≡ length xs
mapped_length f [] = refl
mapped_length f (x ∷ xs) = ap suc (mapped_length f xs)

pub order-app : (op : OpId) (ts : List Term) (u : Term) → order (app_term op ts) u ≡ app_order op (map order ts) u
unfolding order
order-app op ts u = ap (λ before. before u) (fold_term-app int_order app_order op ts)

pub order-app_int : (t u : Term) (op : OpId) (ts : List Term) (y : ℤ) → t.node ≡ App op ts → u.node ≡ Int y → order t u ≡ Greater
order-app_int t u op ts y e f =
    ap (λ n. order (record { node = n }) u) e ∙ order-app op ts u ∙ ap (λ n. app_order op (map order ts) (record { node = n })) f

pub order-app_app : (t u : Term) (f g : OpId) (ts us : List Term) → t.node ≡ App f ts → u.node ≡ App g us
    → order t u ≡ ordering_then (nat_cmp f.0 g.0) (ordering_then (nat_cmp (length ts) (length us)) (slice_cmp order ts us))
order-app_app t u f g ts us e e' =
    ap (λ n. order (record { node = n }) u) e ∙ order-app f ts u ∙ ap (λ n. app_order f (map order ts) (record { node = n })) e'
    ∙ case_term-app (λ _. Greater) (λ op' us. ordering_then (nat_cmp f.0 op'.0) (ordering_then (nat_cmp (length (map order ts)) (length us)) (slice_cmp (λ before u. before u) (map order ts) us))) g us
    ∙ ap (λ n. ordering_then (nat_cmp f.0 g.0) (ordering_then (nat_cmp n (length us)) (slice_cmp (λ before u. before u) (map order ts) us))) (mapped_length order ts)
    ∙ ap (λ c. ordering_then (nat_cmp f.0 g.0) (ordering_then (nat_cmp (length ts) (length us)) c)) (by_order ts us)

first_kept : (a b : Ordering) → ¬ (a ≡ Equal) → a ≡ ordering_then a b
first_kept Less b n = refl
first_kept Equal b n = absurd (n refl)
first_kept Greater b n = refl

module _ (t u : Term) (f g : OpId) (ts us : List Term) (e : t.node ≡ App f ts) (e' : u.node ≡ App g us) where
  pub order-operators : (o : Ordering) → o ≡ nat_cmp f.0 g.0 → ¬ (o ≡ Equal) → o ≡ order t u
  order-operators o is n = first_kept o _ n ∙ ap (λ a. ordering_then a (ordering_then (nat_cmp (length ts) (length us)) (slice_cmp order ts us))) is ∙ sym (order-app_app t u f g ts us e e')

  pub order-lengths : (o : Ordering) → nat_cmp f.0 g.0 ≡ Equal → o ≡ nat_cmp (length ts) (length us) → ¬ (o ≡ Equal) → o ≡ order t u
  order-lengths o one is n =
      first_kept o _ n ∙ ap (λ a. ordering_then a (slice_cmp order ts us)) is ∙ ap (λ a. ordering_then a (ordering_then (nat_cmp (length ts) (length us)) (slice_cmp order ts us))) (sym one)
      ∙ sym (order-app_app t u f g ts us e e')

  pub order-arguments : (o : Ordering) → nat_cmp f.0 g.0 ≡ Equal → nat_cmp (length ts) (length us) ≡ Equal → o ≡ slice_cmp order ts us → o ≡ order t u
  order-arguments o one two is =
      is ∙ ap (λ a. ordering_then a (slice_cmp order ts us)) (sym two) ∙ ap (λ a. ordering_then a (ordering_then (nat_cmp (length ts) (length us)) (slice_cmp order ts us))) (sym one)
      ∙ sym (order-app_app t u f g ts us e e')

pub ruleset orders = (order-int_int, order-int_app, order-app_int)

-- ---- canonical form

pub arms-int : (op : OpId) (t : Term) (z : ℤ) → t.node ≡ Int z → arms_under op t ≡ t ∷ []
arms-int op t z e = ap (λ n. case_node (λ _. t ∷ []) (λ op' us. if op.0 == op'.0 then us else t ∷ []) n) e

pub arms-app : (op : OpId) (t : Term) (f : OpId) (args : List Term) → t.node ≡ App f args → arms_under op t ≡ (if op.0 == f.0 then args else t ∷ [])
arms-app op t f args e =
    ap (λ n. case_node (λ _. t ∷ []) (λ op' us. if op.0 == op'.0 then us else t ∷ []) n) e ∙ case_term-app (λ _. t ∷ []) (λ op' us. if op.0 == op'.0 then us else t ∷ []) f args

pub ruleset arms = (arms-int, arms-app)

pub canon-int : (shapes : Shapes) (t : Term) (z : ℤ) → t.node ≡ Int z → canon shapes t ≡ t
unfolding canon
canon-int shapes t z e = ap (λ n. canon shapes (record { node = n })) e ∙ ap (λ n. record { node = n }) (sym e)

pub canon-app : (shapes : Shapes) (t : Term) (op : OpId) (args : List Term) → t.node ≡ App op args → canon shapes t ≡ node shapes op (map (canon shapes) args)
unfolding canon
canon-app shapes t op args e = ap (λ n. canon shapes (record { node = n })) e ∙ fold_term-app int_term (node shapes) op args

pub ruleset canons = (canon-int, canon-app)
