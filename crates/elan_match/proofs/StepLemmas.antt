-- The steps of the walk.
use Rattle.std.proofs.Common.{◌≡◌, refl, sym, ap, ◌∙◌, ℕ, ℤ, ◌-◌, ◌==◌, Bool, true, false, cond, eqb-true, eq-eqb, Option, Some, None, List, [], ◌∷◌, ◌++◌, map, length, slice_get, get_or, take, drop, ◌+◌, ◌<◌, ◌≤◌, option_map, option_and_then, IsTrue, ◌↔◌, flat_map, arith}
use Rattle.std.specs.Ordering.{int_eq}
use Rattle.std.specs.Bool.{one_answer}
use Rattle.std.proofs.lemmas.List.{map-append, nil_from_length, drop_all, drop_more, take_all}
use Rattle.std.proofs.lemmas.Option.{slice_get-map, get_or_from_slice_get}
use Rattle.boxcar.specs.Table.{Where}
use Rattle.elan_terms.specs.declared.tree.OpId.{OpId}
use Rattle.elan_terms.specs.declared.tree.SortId.{SortId}
use Rattle.elan_terms.specs.declared.tree.Term.{Term}
use Rattle.elan_terms.specs.declared.tree.Pattern.{Pattern}
use Rattle.elan_terms.specs.declared.tree.PatternNode as pattern
use Rattle.elan_terms.specs.declared.tree.Shapes.{Shapes}
use Rattle.elan_terms.specs.Trees.{int_term, app_term}
use Rattle.elan_terms.specs.Term.{same, sort_of, shape_sort}
use Rattle.elan_terms.specs.Match.{has_sort, occurrences}
use Rattle.elan_terms.proofs.TreeLemmas.{fold_pattern-app, case_term-app}
use Rattle.elan_terms.proofs.MatchLemmas.{sort_of-int, sort_of-app, occurrences-app}
use Rattle.elan_terms.proofs.OrderLemmas.{same-equal, equal-same}
use Rattle.elan_shared.specs.Nodes.{arguments}
use Rattle.elan_terms.proofs.Induction.{cases_term}
use Rattle.elan_table.specs.declared.node.Node.{Node}
use Rattle.elan_table.specs.declared.node.Node.TheVariants.{Int, App}
use Rattle.elan_table.specs.Nodes.{node_of}
use Rattle.elan_table.specs.Rows.{terms}
use Rattle.elan_match.specs.Places.{both, side_by_side, at_variable, at_integer, at_operator, placed}
use Rattle.elan_match.specs.Values.{Answers, with_value, with_place, with_places, values_at, values_at_each}
use Rattle.elan_match.proofs.PlaceLemmas.{placed-is}
use Rattle.elan_match.proofs.ValueLemmas.{with_places-append}

-- ---- the node of a term

-- a term whose node is known
pub record IsApp (t : Term) (f : OpId) (count : ℕ) : Type 0 where
  pub is : t ≡ app_term f (arguments t)
  pub many : count ≡ length (arguments t)

node-int : (t : Term) (z : ℤ) → node_of t ≡ Int z → t ≡ int_term z
unfolding node_of
node-int t z
    = cases_term (λ u. node_of u ≡ Int z → u ≡ int_term z) (λ y e. ap int_term (numbers y z e)) (λ f ts e. absurd (apart f (length ts) z (sym (case_term-app Int (λ op us. App op (length us)) f ts) ∙ e))) t
  where
    numbers : (y z : ℤ) → Int y ≡ Int z → y ≡ z
    numbers y z e = cc

    apart : (f : OpId) (n : ℕ) (z : ℤ) → App f n ≡ Int z → ⊥
    apart f n z e = cc

node-app : (t : Term) (f : OpId) (count : ℕ) → node_of t ≡ App f count → IsApp t f count
unfolding node_of arguments
node-app t f count = cases_term (λ u. node_of u ≡ App f count → IsApp u f count)
    (λ y e. absurd (apart f count y e))
    (λ g ts e. let own : arguments (app_term g ts) ≡ ts = case_term-app (λ _. []) (λ _ us. us) g ts in
    let h : App g (length ts) ≡ App f count = sym (case_term-app Int (λ op us. App op (length us)) g ts) ∙ e in
    record { is = ap (λ op. app_term op ts) (heads g f (length ts) count h) ∙ ap (app_term f) (sym own); many = sym (counts g f (length ts) count h) ∙ ap length (sym own) })
    t
  where
    apart : (f : OpId) (n : ℕ) (z : ℤ) → Int z ≡ App f n → ⊥
    apart f n z e = cc

    heads : (g f : OpId) (m n : ℕ) → App g m ≡ App f n → g ≡ f
    heads g f m n e = cc

    counts : (g f : OpId) (m n : ℕ) → App g m ≡ App f n → m ≡ n
    counts g f m n e = cc

-- ---- sorts

pub sort-int : (shapes : Shapes) (t : Term) (z : ℤ) → node_of t ≡ Int z → sort_of shapes t ≡ shapes.int
sort-int shapes t z e = sort_of-int shapes t z (ap (λ u. u.node) (node-int t z e))

pub sort-app : (shapes : Shapes) (t : Term) (f : OpId) (count : ℕ) → node_of t ≡ App f count
    → sort_of shapes t ≡ shape_sort (slice_get shapes.shapes f.0)
sort-app shapes t f count e = sort_of-app shapes t f (arguments t) (ap (λ u. u.node) (node-app t f count e).is)

pub ruleset sorts = (sort-int, sort-app)

-- ---- what stands in the places

placed-app : (p : Pattern) (op : OpId) (ps : List Pattern) (t : Term) → p.node ≡ pattern.App op ps
    → placed p t ≡ at_operator op (map placed ps) t
unfolding placed
placed-app p op ps t e = ap (λ n. placed (record { node = n }) t) e
    ∙ ap (λ find. find t) (fold_pattern-app at_variable at_integer at_operator op ps)

placed-args : (p : Pattern) (op f : OpId) (ps : List Pattern) (t : Term) (count : ℕ) → p.node ≡ pattern.App op ps
    → node_of t ≡ App f count → placed p t ≡ cond (op.0 == f.0) (side_by_side (map placed ps) (arguments t)) None
placed-args p op f ps t count e h =
    placed-app p op ps t e ∙ ap (at_operator op (map placed ps)) (node-app t f count h).is
    ∙ case_term-app (λ _. None) (λ g us. cond (op.0 == g.0) (side_by_side (map placed ps) us) None) f (arguments t)

both-none : (us : Option (List Term)) → both us None ≡ None
both-none None = refl
both-none (Some us) = refl

side_by_side-apart : (finds : List (Term → Option (List Term))) (ts : List Term) → (length finds ≡ length ts → ⊥)
    → side_by_side finds ts ≡ None
side_by_side-apart [] [] apart = absurd (apart refl)
side_by_side-apart [] (t ∷ ts) apart = refl
side_by_side-apart (find ∷ finds) [] apart = refl
side_by_side-apart (find ∷ finds) (t ∷ ts) apart
    = ap (both (find t)) (side_by_side-apart finds ts (λ e. apart (omega arith))) ∙ both-none (find t)

mapped_length : {X Y : Type 0} (f : X → Y) (xs : List X) → length (map f xs) ≡ length xs
mapped_length f [] = refl
mapped_length f (x ∷ xs) = let e : length (map f xs) ≡ length xs = mapped_length f xs in omega arith

-- ---- the steps

abbrev none_either : Bool → Option (List Term)
none_either b = cond b None None

again : (o : Option (List Term)) → option_and_then (λ more. Some more) o ≡ o
again None = refl
again (Some us) = refl

none_after : (o : Option (List Term)) → option_and_then {T = List Term} {U = List Term} (λ more. None) o ≡ None
none_after None = refl
none_after (Some us) = refl

module _ (shapes : Shapes) (first : ℕ) (before : List Term) where
  pub values_at-var : (p : Pattern) (t : Term) (x : ℕ) (s : SortId) → p.node ≡ pattern.Var x s
      → values_at shapes first before p t ≡ with_place shapes first before (x, s) t
  unfolding values_at placed occurrences
  values_at-var p t x s e = ap (λ n. values_at shapes first before (record { node = n }) t) e
      ∙ again (with_place shapes first before (x, s) t)

  if_equal : (b : Bool)
      → option_and_then (with_places shapes first before []) (cond b (Some []) None) ≡ cond b (Some before) None
  if_equal true = refl
  if_equal false = refl

  pub values_at-ints : (p : Pattern) (t : Term) (z y : ℤ) → p.node ≡ pattern.Int z → node_of t ≡ Int y
      → values_at shapes first before p t ≡ cond (int_eq z y) (Some before) None
  unfolding values_at placed occurrences
  values_at-ints p t z y e h =
      ap (λ n. values_at shapes first before (record { node = n }) t) e
      ∙ ap (values_at shapes first before (record { node = pattern.Int z })) (node-int t y h)
      ∙ if_equal (int_eq z y)

  pub values_at-int_app : (p : Pattern) (t : Term) (z : ℤ) (f : OpId) (count : ℕ) → p.node ≡ pattern.Int z
      → node_of t ≡ App f count → values_at shapes first before p t ≡ None
  unfolding values_at placed occurrences
  values_at-int_app p t z f count e h =
      ap (λ n. values_at shapes first before (record { node = n }) t) e
      ∙ ap (values_at shapes first before (record { node = pattern.Int z })) (node-app t f count h).is

  pub values_at-app_int : (p : Pattern) (t : Term) (op : OpId) (ps : List Pattern) (y : ℤ) → p.node ≡ pattern.App op ps
      → node_of t ≡ Int y → values_at shapes first before p t ≡ None
  unfolding values_at
  values_at-app_int p t op ps y e h
      = ap (option_and_then (with_places shapes first before (occurrences p))) (placed-app p op ps t e ∙ ap (at_operator op (map placed ps)) (node-int t y h))

  pub values_at-other : (p : Pattern) (t : Term) (op f : OpId) (ps : List Pattern) (count : ℕ)
      → p.node ≡ pattern.App op ps → node_of t ≡ App f count → (op.0 ≡ f.0 → ⊥)
      → values_at shapes first before p t ≡ None
  unfolding values_at
  values_at-other p t op f ps count e h apart = ap (option_and_then (with_places shapes first before (occurrences p)))
      (placed-args p op f ps t count e h ∙ ap (λ b. cond b (side_by_side (map placed ps) (arguments t)) None) (differ (op.0 == f.0) (λ same. apart (eqb-true op.0 f.0 same))))
    where
      differ : (b : Bool) → (b ≡ true → ⊥) → b ≡ false
      differ true never = absurd (never refl)
      differ false never = refl

  pub values_at-count : (p : Pattern) (t : Term) (op f : OpId) (ps : List Pattern) (count : ℕ)
      → p.node ≡ pattern.App op ps → node_of t ≡ App f count → (length ps ≡ count → ⊥)
      → values_at shapes first before p t ≡ None
  unfolding values_at
  values_at-count p t op f ps count e h apart =
      let k : IsApp t f count = node-app t f count h in
      let none : side_by_side (map placed ps) (arguments t) ≡ None
      = side_by_side-apart (map placed ps) (arguments t) (λ same. apart (sym (mapped_length placed ps) ∙ same ∙ sym k.many)) in
      ap (option_and_then (with_places shapes first before (occurrences p)))
      (placed-args p op f ps t count e h ∙ ap (λ o. cond (op.0 == f.0) o None) none ∙ either (op.0 == f.0))
    where
      either : (b : Bool) → none_either b ≡ None
      either true = refl
      either false = refl

  pub values_at-args : (p : Pattern) (t : Term) (op f : OpId) (ps : List Pattern) (count : ℕ)
      → p.node ≡ pattern.App op ps → node_of t ≡ App f count → op.0 ≡ f.0
      → values_at shapes first before p t ≡ values_at_each shapes first before ps (arguments t)
  unfolding values_at values_at_each
  values_at-args p t op f ps count e h same =
      ap (λ vs. option_and_then (with_places shapes first before vs) (placed p t)) (occurrences-app p op ps e)
      ∙ ap (option_and_then (with_places shapes first before (flat_map occurrences ps)))
      (placed-args p op f ps t count e h ∙ ap (λ b. cond b (side_by_side (map placed ps) (arguments t)) None) (eq-eqb op.0 f.0 same))

  one_by_one : (vs ws : List (ℕ × SortId)) (o q : Option (List Term))
      → ((us : List Term) → o ≡ Some us → length vs ≡ length us)
      → option_and_then (with_places shapes first before (vs ++ ws)) (both o q) ≡ option_and_then (λ more. option_and_then (with_places shapes first more ws) q) (option_and_then (with_places shapes first before vs) o)
  one_by_one vs ws None q many = refl
  one_by_one vs ws (Some us) None many = sym (none_after (with_places shapes first before vs us))
  one_by_one vs ws (Some us) (Some ts) many = with_places-append shapes first before vs ws us ts (many us refl)

  pub values_at_each-cons : (p : Pattern) (ps : List Pattern) (t : Term) (ts : List Term)
      → values_at_each shapes first before (p ∷ ps) (t ∷ ts) ≡ option_and_then (λ more. values_at_each shapes first more ps ts) (values_at shapes first before p t)
  unfolding values_at values_at_each
  values_at_each-cons p ps t ts
      = one_by_one (occurrences p) (flat_map occurrences ps) (placed p t) (side_by_side (map placed ps) ts) (λ us e. (placed-is shapes p t us e).many)

-- ---- what the functions answer

pub bind-known : (shapes : Shapes) (first : ℕ) (rows : List (Where Term)) (x : ℕ) (s : SortId) (t : Term) (row : Where Term) (r : Bool)
    → slice_get rows (x - first) ≡ Some row → IsTrue r ↔ (row.value ≡ t)
    → Answers r (terms rows) (with_place shapes first (terms rows) (x, s) t)
bind-known shapes first rows x s t row r e h =
    ap (λ o. with_value (terms rows) o (has_sort shapes s t) t) (slice_get-map (λ (w : Where Term). w.value) rows (x - first) ∙ ap (option_map (λ (w : Where Term). w.value)) e)
    ∙ ap (λ b. cond b (Some (terms rows)) None) (one_answer (same row.value t) r (same-equal row.value t, equal-same row.value t) h)

pub bind-new : (shapes : Shapes) (first : ℕ) (rows more : List (Where Term)) (x : ℕ) (s : SortId) (t : Term) (row : Where Term)
    → slice_get rows (x - first) ≡ None → has_sort shapes s t ≡ true → row.value ≡ t → more ≡ rows ++ row ∷ []
    → Answers true (terms more) (with_place shapes first (terms rows) (x, s) t)
bind-new shapes first rows more x s t row e h is grown =
    ap (λ o. with_value (terms rows) o (has_sort shapes s t) t) (slice_get-map (λ (w : Where Term). w.value) rows (x - first) ∙ ap (option_map (λ (w : Where Term). w.value)) e)
    ∙ ap (λ b. cond b (Some (terms rows ++ t ∷ [])) None) h
    ∙ ap Some (ap (λ u. terms rows ++ u ∷ []) (sym is) ∙ sym (map-append (λ (w : Where Term). w.value) rows (row ∷ [])) ∙ ap terms (sym grown))

pub bind-other : (shapes : Shapes) (first : ℕ) (rows : List (Where Term)) (x : ℕ) (s : SortId) (t : Term)
    → slice_get rows (x - first) ≡ None → has_sort shapes s t ≡ false
    → Answers false (terms rows) (with_place shapes first (terms rows) (x, s) t)
bind-other shapes first rows x s t e h =
    ap (λ o. with_value (terms rows) o (has_sort shapes s t) t) (slice_get-map (λ (w : Where Term). w.value) rows (x - first) ∙ ap (option_map (λ (w : Where Term). w.value)) e)
    ∙ ap (λ b. cond b (Some (terms rows ++ t ∷ [])) None) h

pub ruleset binds = (bind-known, bind-new, bind-other)

module _ (shapes : Shapes) (first : ℕ) (before : List Term) (p : Pattern) (t : Term) (n : Node) (is_node : n ≡ node_of t) where
  pub onto-ints : (z y : ℤ) → p.node ≡ pattern.Int z → n ≡ Int y
      → Answers (int_eq z y) before (values_at shapes first before p t)
  onto-ints z y e h = values_at-ints shapes first before p t z y e (sym is_node ∙ h)

  pub onto-int_app : (z : ℤ) (f : OpId) (count : ℕ) → p.node ≡ pattern.Int z → n ≡ App f count
      → values_at shapes first before p t ≡ None
  onto-int_app z f count e h = values_at-int_app shapes first before p t z f count e (sym is_node ∙ h)

  pub onto-app_int : (op : OpId) (ps : List Pattern) (y : ℤ) → p.node ≡ pattern.App op ps → n ≡ Int y
      → values_at shapes first before p t ≡ None
  onto-app_int op ps y e h = values_at-app_int shapes first before p t op ps y e (sym is_node ∙ h)

  pub onto-other : (op f : OpId) (ps : List Pattern) (count : ℕ) → p.node ≡ pattern.App op ps → n ≡ App f count
      → (op.0 ≡ f.0 → ⊥) → values_at shapes first before p t ≡ None
  onto-other op f ps count e h apart = values_at-other shapes first before p t op f ps count e (sym is_node ∙ h) apart

  pub onto-count : (op f : OpId) (ps : List Pattern) (count : ℕ) → p.node ≡ pattern.App op ps → n ≡ App f count
      → (length ps ≡ count → ⊥) → values_at shapes first before p t ≡ None
  onto-count op f ps count e h apart = values_at-count shapes first before p t op f ps count e (sym is_node ∙ h) apart

  pub onto-args : (op f : OpId) (ps qs : List Pattern) (count : ℕ) → p.node ≡ pattern.App op ps → n ≡ App f count
      → op.0 ≡ f.0 → qs ≡ ps → values_at shapes first before p t ≡ values_at_each shapes first before qs (arguments t)
  onto-args op f ps qs count e h same args
      = values_at-args shapes first before p t op f ps count e (sym is_node ∙ h) same
      ∙ ap (λ rs. values_at_each shapes first before rs (arguments t)) (sym args)

  pub args-many : (f : OpId) (count : ℕ) → n ≡ App f count → count ≡ length (arguments t)
  args-many f count h = (node-app t f count (sym is_node ∙ h)).many

values_at_each-nil : (shapes : Shapes) (first : ℕ) (before : List Term)
    → values_at_each shapes first before [] [] ≡ Some before
unfolding values_at_each
values_at_each-nil shapes first before = refl

module _ (shapes : Shapes) (first : ℕ) (before : List Term) (ps : List Pattern) (all : List Term) (place : ℕ) (as_many : place + length ps ≡ length all) where
  pub each-none : length ps < 1 → values_at_each shapes first before ps (drop place all) ≡ Some before
  each-none none = let few : length all ≤ place = omega arith in let e : ps ≡ [] = nil_from_length ps (omega arith) in
      ap (λ qs. values_at_each shapes first before qs (drop place all)) e
      ∙ ap (values_at_each shapes first before []) (drop_all place all few) ∙ values_at_each-nil shapes first before

  -- the pattern beside the argument, and the others after it
  pub each-more : (p : Pattern) (t : Term) → 1 ≤ length ps → p ≡ get_or ps 0 p → slice_get all place ≡ Some t
      → values_at_each shapes first before ps (drop place all) ≡ option_and_then (λ more. values_at_each shapes first more (take (length ps - 1) (drop 1 ps)) (drop (place + 1) all)) (values_at shapes first before p t)
  each-more p t some is at =
      let within : place < length all = omega arith in
      ap (λ qs. values_at_each shapes first before qs (drop place all)) (begins ps p some is)
      ∙ ap (values_at_each shapes first before (p ∷ take (length ps - 1) (drop 1 ps))) (drop_more all place t within ∙ ap (λ u. u ∷ drop (place + 1) all) (get_or_from_slice_get all place t t at))
      ∙ values_at_each-cons shapes first before p (take (length ps - 1) (drop 1 ps)) t (drop (place + 1) all)
    where
      begins : (qs : List Pattern) (q : Pattern) → 1 ≤ length qs → q ≡ get_or qs 0 q
          → qs ≡ q ∷ take (length qs - 1) (drop 1 qs)
      begins [] q le e = absurd (omega arith)
      begins (r ∷ qs) q le e = let few : length qs ≤ length (r ∷ qs) - 1
          = omega arith in ap (λ (v : Pattern). v ∷ qs) (sym e)
          ∙ ap (λ vs. q ∷ vs) (sym (take_all (length (r ∷ qs) - 1) qs few))

  -- where the first is the argument, the others go on
  pub each-on : (p : Pattern) (t : Term) (more : List Term) (answer : Bool) → 1 ≤ length ps → p ≡ get_or ps 0 p
      → slice_get all place ≡ Some t → answer ≡ true → Answers answer more (values_at shapes first before p t)
      → values_at_each shapes first before ps (drop place all) ≡ values_at_each shapes first more (take (length ps - 1) (drop 1 ps)) (drop (place + 1) all)
  each-on p t more answer some is at on e =
      each-more p t some is at
      ∙ ap (option_and_then (λ values. values_at_each shapes first values (take (length ps - 1) (drop 1 ps)) (drop (place + 1) all))) (e ∙ ap (λ b. cond b (Some more) None) on)

  -- where it is not, there are no values
  pub each-off : (p : Pattern) (t : Term) (more : List Term) (answer : Bool) → 1 ≤ length ps → p ≡ get_or ps 0 p
      → slice_get all place ≡ Some t → answer ≡ false → Answers answer more (values_at shapes first before p t)
      → values_at_each shapes first before ps (drop place all) ≡ None
  each-off p t more answer some is at off e =
      each-more p t some is at
      ∙ ap (option_and_then (λ values. values_at_each shapes first values (take (length ps - 1) (drop 1 ps)) (drop (place + 1) all))) (e ∙ ap (λ b. cond b (Some more) None) off)

pub ruleset steps = (onto-ints, onto-int_app, onto-app_int, onto-other, onto-count, args-many, each-none)
