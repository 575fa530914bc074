-- What is known of values that are still to come.
use Rattle.std.proofs.Common.{◌≡◌, refl, sym, ap, ◌∙◌, subst, ⊎_elim, inl, inr, ℕ, suc, ◌+◌, ◌<◌, ◌≤◌, ℤ, Bool, true, false, cond, ◌==◌, eqb-true, eq-eqb, Option, Some, None, List, [], ◌∷◌, ◌++◌, map, length, take, drop, ◌-◌, get_or, take_all, append-nil, flat_map, is_eq, arith}
use Rattle.std.specs.Ordering.{int_cmp, int_eq}
use Rattle.std.proofs.lemmas.Bool.Decides.{Decides-int_eq}
use Rattle.elan_terms.specs.declared.tree.OpId.{OpId}
use Rattle.elan_terms.specs.declared.tree.SortId.{SortId}
use Rattle.elan_terms.specs.declared.tree.Term.{Term}
use Rattle.elan_terms.specs.declared.tree.TermNode as term
use Rattle.elan_terms.specs.declared.tree.Pattern.{Pattern}
use Rattle.elan_terms.specs.declared.tree.PatternNode as pattern
use Rattle.elan_terms.specs.declared.tree.Shapes.{Shapes}
use Rattle.elan_terms.specs.Trees.{int_term, app_term}
use Rattle.elan_terms.specs.Term.{same, is_ac, arms_under, node, ascending}
use Rattle.elan_terms.specs.Match.{bound, instance}
use Rattle.elan_terms.specs.Valid.{IsValid}
use Rattle.elan_terms.specs.Canonical.{is_headed, IsSettled, IsCanonical}
use Rattle.elan_terms.specs.Ascending.{NotAfter}
use Rattle.elan_terms.proofs.MatchLemmas.{instance-var, instance-int, instance-app}
use Rattle.elan_terms.proofs.OrderLemmas.{same-equal, equal-same}
use Rattle.elan_terms.proofs.Lists.{AllOf, In, all_of, all_in, in_all, pairs_of}
use Rattle.elan_terms.proofs.NodeLemmas.{two_arguments}
use Rattle.elan_terms.proofs.Sorting.{not_true, ascending-itself}
use Rattle.elan_laws.specs.Parts.{times}
use Rattle.elan_laws.proofs.CanonicalLaws.{canonical_app, node-ac, node-plain, true_or_false, arms-other, arms-same, headed_is, headed-app}
use Rattle.elan_fits.specs.declared.look.Look.{Look}
use Rattle.elan_fits.specs.declared.look.Look.TheVariants as look
use Rattle.elan_fits.specs.declared.look.Prefix.{Prefix}
use Rattle.elan_fits.specs.Looks.{known, admits, Keeps, GoesOn, Tells, Makes, MakeEach, MakeNode, arms_of, Bring, Rest, IsApart, IsAlone, IsFixed, AreFixed, Struck, Lacks}
use Rattle.elan_fits.proofs.Slices.{others, begins, is_empty}
use Rattle.elan_fits.proofs.TimesLemmas.{one_if, times-cons, one_if-itself, one_if-other, times-append, times-ascending, ascending-alike, nothing-there, one-there, times_in, in_times}

-- ---- terms by their nodes

whole : (t : Term) (n : term.TermNode) → t.node ≡ n → t ≡ record { node = n }
whole t n e = ap (λ (m : term.TermNode). record { node = m }) e

-- the arguments are the same
args_of : (op : OpId) (ts us : List Term) → app_term op ts ≡ app_term op us → ts ≡ us
args_of op ts us e = sym (arms-same op ts) ∙ ap (arms_under op) e ∙ arms-same op us

-- the operators have one number
ops_of : (op f : OpId) (ts us : List Term) → app_term op ts ≡ app_term f us → op.0 ≡ f.0
ops_of op f ts us e = eqb-true op.0 f.0 (sym (headed-app op f us) ∙ ap (is_headed op) (sym e) ∙ headed-app op op ts ∙ eq-eqb op.0 op.0 refl)

not_app : {A : Type 0} (z : ℤ) (op : OpId) (ts : List Term) → int_term z ≡ app_term op ts → A
not_app z op ts e = not_true (sym (ap (is_headed op) e ∙ headed-app op op ts ∙ eq-eqb op.0 op.0 refl))

-- the integer, if the node is one
abbrev node_number : term.TermNode → ℤ → ℤ
node_number (term.Int y) z = y
node_number (term.App' op shape row) z = z

-- the same of a term
abbrev number_of : Term → ℤ → ℤ
number_of t z = node_number t.node z

-- ---- values that are known

inside : (t u : Term) → Some t ≡ Some u → t ≡ u
inside t u f = cc

-- the first, or what is known of the others
either : (t u : Term) (b : Bool) (o : Option Term) (w : Term) → (o ≡ Some u → w ≡ u) → cond b (Some t) o ≡ Some u → cond b t w ≡ u
either t u true o w h e = inside t u e
either t u false o w h e = h e

pub known-bound : (vs : List (ℕ × SortId)) (ts : List Term) (x : ℕ) (u : Term) → known vs ts x ≡ Some u → bound vs ts x ≡ u
known-bound [] ts x u e = absurd (no e)
  where
    no : None ≡ Some u → ⊥
    no f = cc
known-bound (v ∷ vs) [] x u e = absurd (no e)
  where
    no : None ≡ Some u → ⊥
    no f = cc
known-bound (v ∷ vs) (t ∷ ts) x u e = either t u (v.0 == x) (known vs ts x) (bound vs ts x) (known-bound vs ts x u) e

module _ (a : Prefix) where
  pub fixed-var : (p : Pattern) (x : ℕ) (s : SortId) (u : Term) → p.node ≡ pattern.Var x s → known a.variables.now a.values.now x ≡ Some u → IsFixed a p
  unfolding IsFixed
  fixed-var p x s u e k value keeps =
      instance-var a.shapes.now value p x s e ∙ keeps x u k ∙ sym (known-bound a.variables.now a.values.now x u k)
      ∙ sym (instance-var a.shapes.now (bound a.variables.now a.values.now) p x s e)

  pub fixed-int : (p : Pattern) (z : ℤ) → p.node ≡ pattern.Int z → IsFixed a p
  unfolding IsFixed
  fixed-int p z e value keeps = instance-int a.shapes.now value p z e ∙ sym (instance-int a.shapes.now (bound a.variables.now a.values.now) p z e)

  pub fixed-app : (p : Pattern) (op : OpId) (ps qs : List Pattern) → p.node ≡ pattern.App op ps → qs ≡ ps → AreFixed a qs → IsFixed a p
  unfolding IsFixed AreFixed
  fixed-app p op ps qs e same h value keeps =
      instance-app a.shapes.now value p op ps e
      ∙ ap (node a.shapes.now op) (ap (map (instance a.shapes.now value)) (sym same) ∙ h value keeps ∙ ap (map (instance a.shapes.now (bound a.variables.now a.values.now))) same)
      ∙ sym (instance-app a.shapes.now (bound a.variables.now a.values.now) p op ps e)

  pub fixed-nil : AreFixed a []
  unfolding AreFixed
  fixed-nil value keeps = refl

  pub fixed-cons : (p : Pattern) (ps : List Pattern) → IsFixed a p → AreFixed a ps → AreFixed a (p ∷ ps)
  unfolding IsFixed AreFixed
  fixed-cons p ps h k value keeps = ap (λ t. t ∷ map (instance a.shapes.now value) ps) (h value keeps)
      ∙ ap (λ ts. instance a.shapes.now (bound a.variables.now a.values.now) p ∷ ts) (k value keeps)

  pub fixed-empty : (ps : List Pattern) → length ps < 1 → AreFixed a ps
  fixed-empty ps few = subst (AreFixed a) (sym (is_empty ps few)) fixed-nil

  pub fixed-first : (ps : List Pattern) (p : Pattern) → 1 ≤ length ps → p ≡ get_or ps 0 p → IsFixed a p → AreFixed a (others ps) → AreFixed a ps
  fixed-first ps p some is h k = subst (AreFixed a) (sym (begins ps p some is)) (fixed-cons p (others ps) h k)

pub ruleset fixes = (fixed-var, fixed-int, fixed-app, fixed-empty, fixed-first)

-- ---- what is told

module _ (a : Prefix) where
  pub any-tells : (Fact : (ℕ → Term) → Type 0) → Tells a look.Any Fact
  unfolding Tells
  any-tells Fact value u g v c f = refl

  pub never-tells : (Fact : (ℕ → Term) → Type 0) → ((value : ℕ → Term) → Fact value → ⊥) → Tells a look.Never Fact
  unfolding Tells
  never-tells Fact none value u g v c f = absurd (none value f)

  pub tells-from : (l : Look) (Fact Other : (ℕ → Term) → Type 0) → ((value : ℕ → Term) → Other value → Fact value) → Tells a l Fact → Tells a l Other
  unfolding Tells
  tells-from l Fact Other f h value u g v c o = h value u g v c (f value o)

  -- ---- a variable

  pub var-known : (x : ℕ) (w t : Term) → known a.variables.now a.values.now x ≡ Some w → same w t ≡ false → Tells a look.Never (λ value. value x ≡ t)
  unfolding Tells
  var-known x w t k other value u g v c f = absurd (no (sym (equal-same w t (sym (g.0 x w k) ∙ f)) ∙ other))
    where
      no : true ≡ false → ⊥
      no e = cc

  pub var-next : (x : ℕ) (t w : Term) → known a.variables.now a.values.now x ≡ None → x ≡ a.next → w ≡ t → Tells a (look.Only w) (λ value. value x ≡ t)
  unfolding Tells
  var-next x t w k is e value u g v c f =
      equal-same w u (e ∙ sym f ∙ ap value is ∙ g.1 (ap (known a.variables.now a.values.now) (sym is) ∙ k))

  -- ---- a pattern and a term

  pub look-var : (p : Pattern) (t : Term) (x : ℕ) (s : SortId) (l : Look) → p.node ≡ pattern.Var x s → Tells a l (λ value. value x ≡ t) → Tells a l (Makes a p t)
  unfolding Tells Makes
  look-var p t x s l e = tells-from l (λ value. value x ≡ t) (Makes a p t) (λ value h. sym (instance-var a.shapes.now value p x s e) ∙ h)

  pub look-ints : (p : Pattern) (t : Term) (z y : ℤ) → p.node ≡ pattern.Int z → t.node ≡ term.Int y → int_eq z y ≡ false → Tells a look.Never (Makes a p t)
  unfolding Tells Makes
  look-ints p t z y e f other = never-tells (Makes a p t) (λ value h. no (sym ((Decides-int_eq z y).1 (ap (λ u. number_of u y) (sym (instance-int a.shapes.now value p z e) ∙ h ∙ whole t (term.Int y) f))) ∙ other))
    where
      no : true ≡ false → ⊥
      no g = cc

  pub look-int_app : (p : Pattern) (t : Term) (z : ℤ) (f : OpId) (us : List Term) → p.node ≡ pattern.Int z → t.node ≡ term.App f us → Tells a look.Never (Makes a p t)
  unfolding Tells Makes
  look-int_app p t z f us e e' = never-tells (Makes a p t) (λ value h. not_app z f us (sym (instance-int a.shapes.now value p z e) ∙ h ∙ whole t (term.App f us) e'))

  -- a node is headed by its operator
  node-headed : (op : OpId) (ts : List Term) → (us : List Term) × (node a.shapes.now op ts ≡ app_term op us)
  unfolding node
  node-headed op ts = (_, refl)

  pub look-app_int : (p : Pattern) (t : Term) (op : OpId) (ps : List Pattern) (y : ℤ) → p.node ≡ pattern.App op ps → t.node ≡ term.Int y → Tells a look.Never (Makes a p t)
  unfolding Tells Makes
  look-app_int p t op ps y e f = never-tells (Makes a p t) (λ value h.
      let n : (us : List Term) × (node a.shapes.now op (map (instance a.shapes.now value) ps) ≡ app_term op us) = node-headed op (map (instance a.shapes.now value) ps) in
      not_app y op n.0 (sym (whole t (term.Int y) f) ∙ sym h ∙ instance-app a.shapes.now value p op ps e ∙ n.1))

  pub look-other : (p : Pattern) (t : Term) (op f : OpId) (ps : List Pattern) (us : List Term) → p.node ≡ pattern.App op ps → t.node ≡ term.App f us → (op.0 ≡ f.0 → ⊥) → Tells a look.Never (Makes a p t)
  unfolding Tells Makes
  look-other p t op f ps us e e' apart = never-tells (Makes a p t) (λ value h.
      let n : (ts : List Term) × (node a.shapes.now op (map (instance a.shapes.now value) ps) ≡ app_term op ts) = node-headed op (map (instance a.shapes.now value) ps) in
      apart (ops_of op f n.0 us (sym n.1 ∙ sym (instance-app a.shapes.now value p op ps e) ∙ h ∙ whole t (term.App f us) e')))

  pub look-app : (p : Pattern) (t : Term) (op f : OpId) (ps qs : List Pattern) (us ts : List Term) (l : Look) → p.node ≡ pattern.App op ps → t.node ≡ term.App f us → op.0 ≡ f.0
      → qs ≡ ps → ts ≡ us → Tells a l (MakeNode a op qs ts) → Tells a l (Makes a p t)
  unfolding Tells Makes MakeNode
  look-app p t op f ps qs us ts l e e' same eq-ps eq-ts = tells-from l (MakeNode a op qs ts) (Makes a p t) (λ value h.
      ap (λ rs. node a.shapes.now op (map (instance a.shapes.now value) rs)) eq-ps
      ∙ sym (instance-app a.shapes.now value p op ps e) ∙ h ∙ whole t (term.App f us) e'
      ∙ ap (λ (i : ℕ). app_term (record { 0 = i }) us) (sym same) ∙ ap (app_term op) (sym eq-ts))

  -- ---- operators

  pub look-sum : (op : OpId) (ps : List Pattern) (ts left : List Term) (l : Look) → is_ac a.shapes.now op ≡ true → left ≡ ts → Tells a l (Bring a op ps left) → Tells a l (MakeNode a op ps ts)
  unfolding Tells MakeNode Bring
  look-sum op ps ts left l ac e = tells-from l (Bring a op ps left) (MakeNode a op ps ts) (λ value h x.
      let is : ascending (arms_of a op ps value) ≡ ts = args_of op (ascending (arms_of a op ps value)) ts (sym (node-ac a.shapes.now op (map (instance a.shapes.now value) ps) ac) ∙ h) in
      ap (times x) (e ∙ sym is) ∙ times-ascending x (arms_of a op ps value))

  pub look-each : (op : OpId) (ps : List Pattern) (ts : List Term) (l : Look) → is_ac a.shapes.now op ≡ false → Tells a l (MakeEach a ps ts) → Tells a l (MakeNode a op ps ts)
  unfolding Tells MakeEach MakeNode
  look-each op ps ts l plain = tells-from l (MakeEach a ps ts) (MakeNode a op ps ts) (λ value h.
      args_of op (map (instance a.shapes.now value) ps) ts (sym (node-plain a.shapes.now op (map (instance a.shapes.now value) ps) plain) ∙ h))

  -- ---- one beside the other

  apart_none : (t : Term) (ts : List Term) → [] ≡ t ∷ ts → ⊥
  apart_none t ts e = let l : 0 ≡ suc (length ts) = ap length e in omega arith

  pub each-few : (t : Term) (ts : List Term) → Tells a look.Never (MakeEach a [] (t ∷ ts))
  unfolding Tells MakeEach
  each-few t ts = never-tells (MakeEach a [] (t ∷ ts)) (λ value h. apart_none t ts h)

  pub each-many : (p : Pattern) (ps : List Pattern) → Tells a look.Never (MakeEach a (p ∷ ps) [])
  unfolding Tells MakeEach
  each-many p ps = never-tells (MakeEach a (p ∷ ps) []) (λ value h. apart_none _ _ (sym h))

  first_of : (t u : Term) (ts us : List Term) → t ∷ ts ≡ u ∷ us → t ≡ u
  first_of t u ts us e = cc

  others_of : (t u : Term) (ts us : List Term) → t ∷ ts ≡ u ∷ us → ts ≡ us
  others_of t u ts us e = cc

  pub each-more : (p : Pattern) (ps : List Pattern) (t : Term) (ts : List Term) (l m r : Look) → Tells a l (Makes a p t) → Tells a m (MakeEach a ps ts)
      → ((u : Term) → admits l u ≡ true → admits m u ≡ true → admits r u ≡ true) → Tells a r (MakeEach a (p ∷ ps) (t ∷ ts))
  unfolding Tells Makes MakeEach
  each-more p ps t ts l m r h k b value u g v c f =
      b u (h value u g v c (first_of _ _ _ _ f)) (k value u g v c (others_of _ _ _ _ f))

  pub each-left : (ps : List Pattern) (ts : List Term) → length ps < 1 → 1 ≤ length ts → Tells a look.Never (MakeEach a ps ts)
  each-left ps ts few some = go ts some
    where
      go : (us : List Term) → 1 ≤ length us → Tells a look.Never (MakeEach a ps us)
      go [] le = absurd (omega arith)
      go (u ∷ us) le = subst (λ qs. Tells a look.Never (MakeEach a qs (u ∷ us))) (sym (is_empty ps few)) (each-few u us)

  pub each-lacks : (ps : List Pattern) (ts : List Term) → 1 ≤ length ps → length ts < 1 → Tells a look.Never (MakeEach a ps ts)
  each-lacks ps ts some few = go ps some
    where
      go : (qs : List Pattern) → 1 ≤ length qs → Tells a look.Never (MakeEach a qs ts)
      go [] le = absurd (omega arith)
      go (q ∷ qs) le = subst (λ us. Tells a look.Never (MakeEach a (q ∷ qs) us)) (sym (is_empty ts few)) (each-many q qs)

  pub each-first : (ps : List Pattern) (p : Pattern) (ts : List Term) (t : Term) (l m r : Look) → 1 ≤ length ps → p ≡ get_or ps 0 p → 1 ≤ length ts → t ≡ get_or ts 0 t
      → Tells a l (Makes a p t) → Tells a m (MakeEach a (others ps) (others ts))
      → ((u : Term) → admits l u ≡ true → admits m u ≡ true → admits r u ≡ true) → Tells a r (MakeEach a ps ts)
  each-first ps p ts t l m r some is some' is' h k b =
      subst (λ qs. Tells a r (MakeEach a qs ts)) (sym (begins ps p some is)) (subst (λ us. Tells a r (MakeEach a (p ∷ others ps) us)) (sym (begins ts t some' is'))
      (each-more p (others ps) t (others ts) l m r h k b))

  -- ---- what is struck

  pub fixed-struck : (op : OpId) (p : Pattern) (made : Term) (before after : List Term) → IsFixed a p → made ≡ instance a.shapes.now (bound a.variables.now a.values.now) p
      → Struck before (arms_under op made) after → (value : ℕ → Term) → Keeps a value → Struck before (arms_under op (instance a.shapes.now value p)) after
  unfolding IsFixed Struck
  fixed-struck op p made before after h e s value keeps = subst (λ t. Struck before (arms_under op t) after) (e ∙ sym (h value keeps)) s

  pub fixed-lacks : (op : OpId) (p : Pattern) (made : Term) (before : List Term) → IsFixed a p → made ≡ instance a.shapes.now (bound a.variables.now a.values.now) p
      → Lacks before (arms_under op made) → (value : ℕ → Term) → Keeps a value → Lacks before (arms_under op (instance a.shapes.now value p))
  unfolding IsFixed Lacks
  fixed-lacks op p made before h e s value keeps = subst (λ t. Lacks before (arms_under op t)) (e ∙ sym (h value keeps)) s

  pub sum-none : (op : OpId) → Tells a look.Any (Bring a op [] [])
  unfolding Tells Bring
  sum-none op = any-tells (Bring a op [] [])

  pub sum-left : (op : OpId) (ts : List Term) → (ts ≡ [] → ⊥) → Tells a look.Never (Bring a op [] ts)
  unfolding Tells Bring
  sum-left op ts some = never-tells (Bring a op [] ts) (λ value h. some (nothing-there ts h))

  pub sum-more : (op : OpId) (p : Pattern) (ps : List Pattern) (ts left : List Term) (l : Look)
      → ((value : ℕ → Term) → Keeps a value → Struck ts (arms_under op (instance a.shapes.now value p)) left)
      → Tells a l (Bring a op ps left) → Tells a l (Bring a op (p ∷ ps) ts)
  unfolding Tells Bring Struck
  sum-more op p ps ts left l s h value u g v c f = h value u g v c (λ x.
      let i : times x ts ≡ times x (arms_of a op (p ∷ ps) value) = f x in
      let j : times x ts ≡ times x (arms_under op (instance a.shapes.now value p)) + times x left = s value g.0 x in
      omega (arith, times-append x (arms_under op (instance a.shapes.now value p)) (arms_of a op ps value)))

  pub sum-lacks : (op : OpId) (p : Pattern) (ps : List Pattern) (ts : List Term)
      → ((value : ℕ → Term) → Keeps a value → Lacks ts (arms_under op (instance a.shapes.now value p)))
      → Tells a look.Never (Bring a op (p ∷ ps) ts)
  unfolding Tells Bring Lacks Struck
  sum-lacks op p ps ts s value u g v c f = absurd (s value g.0 (arms_of a op ps value) (λ x.
      f x ∙ times-append x (arms_under op (instance a.shapes.now value p)) (arms_of a op ps value)))

  pub loose-more : (op : OpId) (q p : Pattern) (ps : List Pattern) (ts left : List Term) (l : Look)
      → ((value : ℕ → Term) → Keeps a value → Struck ts (arms_under op (instance a.shapes.now value p)) left)
      → Tells a l (Bring a op (q ∷ ps) left) → Tells a l (Bring a op (q ∷ p ∷ ps) ts)
  unfolding Tells Bring Struck
  loose-more op q p ps ts left l s h value u g v c f = h value u g v c (λ x.
      let mine : List Term = arms_under op (instance a.shapes.now value q) in
      let its : List Term = arms_under op (instance a.shapes.now value p) in
      let i : times x ts ≡ times x (mine ++ (its ++ arms_of a op ps value)) = f x in
      let j : times x ts ≡ times x its + times x left = s value g.0 x in
      omega (arith, times-append x mine (its ++ arms_of a op ps value), times-append x its (arms_of a op ps value), times-append x mine (arms_of a op ps value)))

  pub loose-lacks : (op : OpId) (q p : Pattern) (ps : List Pattern) (ts : List Term)
      → ((value : ℕ → Term) → Keeps a value → Lacks ts (arms_under op (instance a.shapes.now value p)))
      → Tells a look.Never (Bring a op (q ∷ p ∷ ps) ts)
  unfolding Tells Bring Lacks Struck
  loose-lacks op q p ps ts s value u g v c f = absurd (s value g.0 (arms_under op (instance a.shapes.now value q) ++ arms_of a op ps value) (λ x.
      let mine : List Term = arms_under op (instance a.shapes.now value q) in
      let its : List Term = arms_under op (instance a.shapes.now value p) in
      let i : times x ts ≡ times x (mine ++ (its ++ arms_of a op ps value)) = f x in
      omega (arith, times-append x mine (its ++ arms_of a op ps value), times-append x its (arms_of a op ps value), times-append x mine (arms_of a op ps value))))

  pub sum-empty : (op : OpId) (ps : List Pattern) (ts : List Term) → length ps < 1 → (ts ≡ [] → ⊥) → Tells a look.Never (Bring a op ps ts)
  sum-empty op ps ts few some = subst (λ qs. Tells a look.Never (Bring a op qs ts)) (sym (is_empty ps few)) (sum-left op ts some)

  pub sum-first : (op : OpId) (ps : List Pattern) (p : Pattern) (ts left : List Term) (l : Look) → 1 ≤ length ps → p ≡ get_or ps 0 p
      → ((value : ℕ → Term) → Keeps a value → Struck ts (arms_under op (instance a.shapes.now value p)) left)
      → Tells a l (Bring a op (others ps) left) → Tells a l (Bring a op ps ts)
  sum-first op ps p ts left l some is s h = subst (λ qs. Tells a l (Bring a op qs ts)) (sym (begins ps p some is)) (sum-more op p (others ps) ts left l s h)

  pub sum-loose : (op : OpId) (ps : List Pattern) (p : Pattern) (ts : List Term) (l : Look) → 1 ≤ length ps → p ≡ get_or ps 0 p
      → Tells a l (Bring a op (p ∷ others ps) ts) → Tells a l (Bring a op ps ts)
  sum-loose op ps p ts l some is h = subst (λ qs. Tells a l (Bring a op qs ts)) (sym (begins ps p some is)) h

  pub sum-never : (op : OpId) (ps : List Pattern) (p : Pattern) (ts : List Term) → 1 ≤ length ps → p ≡ get_or ps 0 p
      → ((value : ℕ → Term) → Keeps a value → Lacks ts (arms_under op (instance a.shapes.now value p)))
      → Tells a look.Never (Bring a op ps ts)
  sum-never op ps p ts some is s = subst (λ qs. Tells a look.Never (Bring a op qs ts)) (sym (begins ps p some is)) (sum-lacks op p (others ps) ts s)

  pub loose-last : (op : OpId) (q : Pattern) (ps : List Pattern) (ts : List Term) (l : Look) → length ps < 1 → Tells a l (Bring a op (q ∷ []) ts) → Tells a l (Bring a op (q ∷ ps) ts)
  loose-last op q ps ts l few h = subst (λ qs. Tells a l (Bring a op (q ∷ qs) ts)) (sym (is_empty ps few)) h

  pub loose-first : (op : OpId) (q : Pattern) (ps : List Pattern) (p : Pattern) (ts left : List Term) (l : Look) → 1 ≤ length ps → p ≡ get_or ps 0 p
      → ((value : ℕ → Term) → Keeps a value → Struck ts (arms_under op (instance a.shapes.now value p)) left)
      → Tells a l (Bring a op (q ∷ others ps) left) → Tells a l (Bring a op (q ∷ ps) ts)
  loose-first op q ps p ts left l some is s h = subst (λ qs. Tells a l (Bring a op (q ∷ qs) ts)) (sym (begins ps p some is)) (loose-more op q p (others ps) ts left l s h)

  pub loose-never : (op : OpId) (q : Pattern) (ps : List Pattern) (p : Pattern) (ts : List Term) → 1 ≤ length ps → p ≡ get_or ps 0 p
      → ((value : ℕ → Term) → Keeps a value → Lacks ts (arms_under op (instance a.shapes.now value p)))
      → Tells a look.Never (Bring a op (q ∷ ps) ts)
  loose-never op q ps p ts some is s = subst (λ qs. Tells a look.Never (Bring a op (q ∷ qs) ts)) (sym (begins ps p some is)) (loose-lacks op q p (others ps) ts s)

  -- ---- the last pattern

  pub last-var : (op : OpId) (p : Pattern) (x : ℕ) (s : SortId) (ts : List Term) (l : Look) → p.node ≡ pattern.Var x s → Tells a l (Rest op x ts) → Tells a l (Bring a op (p ∷ []) ts)
  unfolding Tells Bring Rest
  last-var op p x s ts l e = tells-from l (Rest op x ts) (Bring a op (p ∷ []) ts) (λ value h y.
      h y ∙ ap (times y) (append-nil (arms_under op (instance a.shapes.now value p)) ∙ ap (arms_under op) (instance-var a.shapes.now value p x s e)))

  pub last-apart : (op f : OpId) (p : Pattern) (ps : List Pattern) → p.node ≡ pattern.App f ps → (op.0 ≡ f.0 → ⊥) → IsApart a op p
  unfolding IsApart
  last-apart op f p ps e apart value =
      let n : (us : List Term) × (node a.shapes.now f (map (instance a.shapes.now value) ps) ≡ app_term f us) = node-headed f (map (instance a.shapes.now value) ps) in
      ap (is_headed op) (instance-app a.shapes.now value p f ps e ∙ n.1) ∙ headed-app op f n.0 ∙ differ (op.0 == f.0) (λ same. apart (eqb-true op.0 f.0 same))
    where
      differ : (b : Bool) → (b ≡ true → ⊥) → b ≡ false
      differ true never = absurd (never refl)
      differ false never = refl

  apart-alone : (op : OpId) (p : Pattern) (ts : List Term) (value : ℕ → Term) → IsApart a op p → Bring a op (p ∷ []) ts value → ts ≡ instance a.shapes.now value p ∷ []
  unfolding Bring IsApart
  apart-alone op p ts value apart h = one-there ts (instance a.shapes.now value p) (λ x.
      h x ∙ ap (times x) (append-nil (arms_under op (instance a.shapes.now value p)) ∙ arms-other op (instance a.shapes.now value p) (apart value)))

  pub one-none : (op : OpId) (p : Pattern) → IsApart a op p → Tells a look.Never (Bring a op (p ∷ []) [])
  unfolding Tells Bring IsApart
  one-none op p apart = never-tells (Bring a op (p ∷ []) []) (λ value h. apart_none _ _ (apart-alone op p [] value apart h))

  pub one-alone : (op : OpId) (p : Pattern) (t : Term) (l : Look) → IsApart a op p → Tells a l (Makes a p t) → Tells a l (Bring a op (p ∷ []) (t ∷ []))
  unfolding Tells Makes Bring IsApart
  one-alone op p t l apart = tells-from l (Makes a p t) (Bring a op (p ∷ []) (t ∷ [])) (λ value h. sym (first_of _ _ _ _ (apart-alone op p (t ∷ []) value apart h)))

  pub one-many : (op : OpId) (p : Pattern) (t : Term) (ts : List Term) → IsApart a op p → (ts ≡ [] → ⊥) → Tells a look.Never (Bring a op (p ∷ []) (t ∷ ts))
  unfolding Tells Bring IsApart
  one-many op p t ts apart some = never-tells (Bring a op (p ∷ []) (t ∷ ts)) (λ value h. some (others_of _ _ _ _ (apart-alone op p (t ∷ ts) value apart h)))

  pub one-empty : (op : OpId) (p : Pattern) (ts : List Term) → IsApart a op p → length ts < 1 → Tells a look.Never (Bring a op (p ∷ []) ts)
  one-empty op p ts apart few = subst (λ us. Tells a look.Never (Bring a op (p ∷ []) us)) (sym (is_empty ts few)) (one-none op p apart)

  pub one-only : (op : OpId) (p : Pattern) (ts : List Term) (t : Term) (l : Look) → IsApart a op p → 1 ≤ length ts → t ≡ get_or ts 0 t → length (others ts) < 1 → Tells a l (Makes a p t) → Tells a l (Bring a op (p ∷ []) ts)
  one-only op p ts t l apart some is few h = subst (λ us. Tells a l (Bring a op (p ∷ []) us)) (sym (begins ts t some is ∙ ap (λ us. t ∷ us) (is_empty (others ts) few))) (one-alone op p t l apart h)

  pub one-more : (op : OpId) (p : Pattern) (ts : List Term) (t : Term) → IsApart a op p → 1 ≤ length ts → t ≡ get_or ts 0 t → 1 ≤ length (others ts) → Tells a look.Never (Bring a op (p ∷ []) ts)
  one-more op p ts t apart some is many = subst (λ us. Tells a look.Never (Bring a op (p ∷ []) us)) (sym (begins ts t some is))
      (one-many op p t (others ts) apart (λ e. let n : length (others ts) ≡ 0 = ap length e in absurd (omega arith)))

  -- ---- a variable takes what is left

  -- the value that makes a rest is next
  rest-next : (op : OpId) (x : ℕ) (ts : List Term) (value : ℕ → Term) (u : Term) → known a.variables.now a.values.now x ≡ None → x ≡ a.next → GoesOn a value u → Rest op x ts value
      → (y : Term) → times y ts ≡ times y (arms_under op u)
  unfolding Rest
  rest-next op x ts value u k is g f y = f y ∙ ap (λ w. times y (arms_under op w)) (ap value is ∙ g.1 (ap (known a.variables.now a.values.now) (sym is) ∙ k))

  -- of a valid term that is headed by the operator there are two arguments
  headed-two : (op : OpId) (u : Term) → is_ac a.shapes.now op ≡ true → IsValid a.shapes.now u → is_headed op u ≡ true → 2 ≤ length (arms_under op u)
  headed-two op u ac v h = two_arguments a.shapes.now op (arms_under op u) ac (subst (IsValid a.shapes.now) (headed_is op u h) v)

  pub rest-few : (op : OpId) (x : ℕ) (ts : List Term) (l : Look) → is_ac a.shapes.now op ≡ true → known a.variables.now a.values.now x ≡ None → x ≡ a.next → length ts < 2 → IsAlone l ts → Tells a l (Rest op x ts)
  unfolding Tells Rest
  rest-few op x ts l ac k is few alone value u g v c f = ⊎_elim
      (λ headed. let two : 2 ≤ length (arms_under op u) = headed-two op u ac v headed in short ts few two (rest-next op x ts value u k is g f))
      (λ other. let e : ts ≡ u ∷ [] = one-there ts u (λ y. rest-next op x ts value u k is g f y ∙ ap (times y) (arms-other op u other)) in
      ap (λ m. admits m u) (subst (IsAlone l) e alone) ∙ equal-same u u refl)
      (true_or_false (is_headed op u))
    where
      short : (ts : List Term) → length ts < 2 → 2 ≤ length (arms_under op u) → ((y : Term) → times y ts ≡ times y (arms_under op u)) → admits l u ≡ true
      short [] few two h = let e : arms_under op u ≡ [] = nothing-there (arms_under op u) (λ y. sym (h y)) in let n : length (arms_under op u) ≡ 0 = ap length e in absurd (omega arith)
      short (t ∷ []) few two h = let e : arms_under op u ≡ t ∷ [] = one-there (arms_under op u) t (λ y. sym (h y)) in let n : length (arms_under op u) ≡ 1 = ap length e in absurd (omega arith)
      short (t ∷ t' ∷ ts) few two h = absurd (omega arith)

  no_arms : (op : OpId) (ts : List Term) → AllOf (λ t. is_headed op t ≡ false) ts → flat_map (arms_under op) ts ≡ ts
  no_arms op [] h = refl
  no_arms op (t ∷ ts) h = ap (λ us. us ++ flat_map (arms_under op) ts) (arms-other op t h.0) ∙ ap (λ us. t ∷ us) (no_arms op ts h.1)

  -- the node of what is left is a canonical term with these arguments
  node-rest : (op : OpId) (us ts : List Term) → is_ac a.shapes.now op ≡ true → IsSettled a.shapes.now op us → ((y : Term) → times y ts ≡ times y us) → node a.shapes.now op ts ≡ app_term op us
  node-rest op us ts ac s h =
      let others : AllOf (λ t. is_headed op t ≡ false) us = all_of (λ t. is_headed op t ≡ false) us (s ac).0 in
      let mine : AllOf (λ t. is_headed op t ≡ false) ts = all_in (λ t. is_headed op t ≡ false) ts (λ t i.
      in_all (λ t. is_headed op t ≡ false) us t others (times_in t us (let e : times t ts ≡ times t us = h t in let one : 1 ≤ times t ts = in_times t ts i in omega arith))) in
      node-ac a.shapes.now op ts ac ∙ ap (λ vs. app_term op (ascending vs)) (no_arms op ts mine)
      ∙ ap (app_term op) (ascending-alike ts us h ∙ ascending-itself us (pairs_of NotAfter us (s ac).1))

  pub rest-many : (op : OpId) (x : ℕ) (ts : List Term) (w : Term) → is_ac a.shapes.now op ≡ true → known a.variables.now a.values.now x ≡ None → x ≡ a.next → (length ts < 2 → ⊥) → w ≡ node a.shapes.now op ts
      → Tells a (look.Only w) (Rest op x ts)
  unfolding Tells Rest
  rest-many op x ts w ac k is many e value u g v c f = ⊎_elim
      (λ headed. let own : u ≡ app_term op (arms_under op u) = headed_is op u headed in
      let s : IsSettled a.shapes.now op (arms_under op u) = (canonical_app a.shapes.now op (arms_under op u) (subst (IsCanonical a.shapes.now) own c)).0 in
      equal-same w u (e ∙ node-rest op (arms_under op u) ts ac s (rest-next op x ts value u k is g f) ∙ sym own))
      (λ other. let alone : ts ≡ u ∷ [] = one-there ts u (λ y. rest-next op x ts value u k is g f y ∙ ap (times y) (arms-other op u other)) in
      let n : length ts ≡ 1 = ap length alone in absurd (many (omega arith)))
      (true_or_false (is_headed op u))

pub ruleset looks = (any-tells, look-var, look-ints, look-int_app, look-app_int, look-other, look-app, look-sum, look-each, each-left, each-lacks, each-first, sum-empty, sum-first, sum-loose, sum-never, loose-last, loose-first, loose-never, last-var, last-apart, one-empty, one-only, one-more)

pub ruleset variables = (any-tells, var-known, var-next)

pub ruleset rests = (any-tells, rest-few, rest-many)

pub ruleset strikes = (fixed-struck, fixed-lacks)
