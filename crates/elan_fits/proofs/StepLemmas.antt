-- The steps of the walk down a plain pattern.
use Rattle.std.proofs.Common.{◌≡◌, refl, sym, ap, ◌∙◌, ℕ, ℤ, ◌-◌, ◌==◌, Bool, true, false, cond, eqb-true, eq-eqb, Option, Some, None, List, [], ◌∷◌, ◌++◌, map, length, slice_get, get_or, take, drop, ◌<◌, ◌≤◌, option_and_then, flat_map, take_all, arith}
use Rattle.std.specs.Ordering.{int_eq}
use Rattle.elan_terms.specs.declared.tree.OpId.{OpId}
use Rattle.elan_terms.specs.declared.tree.SortId.{SortId}
use Rattle.elan_terms.specs.declared.tree.Term.{Term}
use Rattle.elan_terms.specs.declared.tree.TermNode as term
use Rattle.elan_terms.specs.declared.tree.Pattern.{Pattern}
use Rattle.elan_terms.specs.declared.tree.PatternNode as pattern
use Rattle.elan_terms.specs.declared.tree.Shapes.{Shapes}
use Rattle.elan_terms.specs.Trees.{int_term, app_term}
use Rattle.elan_terms.specs.Term.{same}
use Rattle.elan_terms.specs.Match.{has_sort, occurrences}
use Rattle.elan_terms.proofs.TreeLemmas.{fold_pattern-app, case_term-app}
use Rattle.elan_terms.proofs.MatchLemmas.{occurrences-app}
use Rattle.elan_fits.specs.Places.{both, side_by_side, at_variable, at_integer, at_operator, placed}
use Rattle.elan_fits.specs.Values.{Answers, with_value, with_place, with_places, values_at, values_at_each}
use Rattle.elan_fits.proofs.Slices.{others, begins, is_empty}
use Rattle.elan_fits.proofs.PlaceLemmas.{placed-is}
use Rattle.elan_fits.proofs.ValueLemmas.{with_places-append}

-- a term by its node
whole : (t : Term) (n : term.TermNode) → t.node ≡ n → t ≡ record { node = n }
whole t n e = ap (λ (m : term.TermNode). record { node = m }) e

-- ---- what stands in the places

placed-app : (p : Pattern) (op : OpId) (ps : List Pattern) (t : Term) → p.node ≡ pattern.App op ps
    → placed p t ≡ at_operator op (map placed ps) t
unfolding placed
placed-app p op ps t e = ap (λ n. placed (record { node = n }) t) e
    ∙ ap (λ find. find t) (fold_pattern-app at_variable at_integer at_operator op ps)

placed-args : (p : Pattern) (op f : OpId) (ps : List Pattern) (t : Term) (us : List Term) → p.node ≡ pattern.App op ps
    → t.node ≡ term.App f us → placed p t ≡ cond (op.0 == f.0) (side_by_side (map placed ps) us) None
placed-args p op f ps t us e h =
    placed-app p op ps t e ∙ ap (at_operator op (map placed ps)) (whole t (term.App f us) h)
    ∙ case_term-app (λ _. None) (λ g us. cond (op.0 == g.0) (side_by_side (map placed ps) us) None) f us

both-none : (us : Option (List Term)) → both us None ≡ None
both-none None = refl
both-none (Some us) = refl

side_by_side-apart : (finds : List (Term → Option (List Term))) (ts : List Term) → (length finds ≡ length ts → ⊥)
    → side_by_side finds ts ≡ None
side_by_side-apart [] [] apart = absurd (apart refl)
side_by_side-apart [] (t ∷ ts) apart = refl
side_by_side-apart (find ∷ finds) [] apart = refl
side_by_side-apart (find ∷ finds) (t ∷ ts) apart
    = ap (both (find t)) (side_by_side-apart finds ts (λ e. apart (omega arith))) ∙ both-none (find t)

mapped_length : {X Y : Type 0} (f : X → Y) (xs : List X) → length (map f xs) ≡ length xs
mapped_length f [] = refl
mapped_length f (x ∷ xs) = let e : length (map f xs) ≡ length xs = mapped_length f xs in omega arith

-- ---- the steps

abbrev none_either : Bool → Option (List Term)
none_either b = cond b None None

again : (o : Option (List Term)) → option_and_then (λ more. Some more) o ≡ o
again None = refl
again (Some us) = refl

none_after : (o : Option (List Term)) → option_and_then {T = List Term} {U = List Term} (λ more. None) o ≡ None
none_after None = refl
none_after (Some us) = refl

module _ (shapes : Shapes) (first : ℕ) (before : List Term) where
  pub values_at-var : (p : Pattern) (t : Term) (x : ℕ) (s : SortId) → p.node ≡ pattern.Var x s
      → values_at shapes first before p t ≡ with_place shapes first before (x, s) t
  unfolding values_at placed occurrences
  values_at-var p t x s e = ap (λ n. values_at shapes first before (record { node = n }) t) e
      ∙ again (with_place shapes first before (x, s) t)

  if_equal : (b : Bool)
      → option_and_then (with_places shapes first before []) (cond b (Some []) None) ≡ cond b (Some before) None
  if_equal true = refl
  if_equal false = refl

  pub values_at-ints : (p : Pattern) (t : Term) (z y : ℤ) → p.node ≡ pattern.Int z → t.node ≡ term.Int y
      → values_at shapes first before p t ≡ cond (int_eq z y) (Some before) None
  unfolding values_at placed occurrences
  values_at-ints p t z y e h =
      ap (λ n. values_at shapes first before (record { node = n }) t) e
      ∙ ap (values_at shapes first before (record { node = pattern.Int z })) (whole t (term.Int y) h)
      ∙ if_equal (int_eq z y)

  pub values_at-int_app : (p : Pattern) (t : Term) (z : ℤ) (f : OpId) (us : List Term) → p.node ≡ pattern.Int z
      → t.node ≡ term.App f us → values_at shapes first before p t ≡ None
  unfolding values_at placed occurrences
  values_at-int_app p t z f us e h =
      ap (λ n. values_at shapes first before (record { node = n }) t) e
      ∙ ap (values_at shapes first before (record { node = pattern.Int z })) (whole t (term.App f us) h)

  pub values_at-app_int : (p : Pattern) (t : Term) (op : OpId) (ps : List Pattern) (y : ℤ) → p.node ≡ pattern.App op ps
      → t.node ≡ term.Int y → values_at shapes first before p t ≡ None
  unfolding values_at
  values_at-app_int p t op ps y e h
      = ap (option_and_then (with_places shapes first before (occurrences p))) (placed-app p op ps t e ∙ ap (at_operator op (map placed ps)) (whole t (term.Int y) h))

  pub values_at-other : (p : Pattern) (t : Term) (op f : OpId) (ps : List Pattern) (us : List Term)
      → p.node ≡ pattern.App op ps → t.node ≡ term.App f us → (op.0 ≡ f.0 → ⊥)
      → values_at shapes first before p t ≡ None
  unfolding values_at
  values_at-other p t op f ps us e h apart = ap (option_and_then (with_places shapes first before (occurrences p)))
      (placed-args p op f ps t us e h ∙ ap (λ b. cond b (side_by_side (map placed ps) us) None) (differ (op.0 == f.0) (λ same. apart (eqb-true op.0 f.0 same))))
    where
      differ : (b : Bool) → (b ≡ true → ⊥) → b ≡ false
      differ true never = absurd (never refl)
      differ false never = refl

  pub values_at-count : (p : Pattern) (t : Term) (op f : OpId) (ps : List Pattern) (us : List Term)
      → p.node ≡ pattern.App op ps → t.node ≡ term.App f us → (length ps ≡ length us → ⊥)
      → values_at shapes first before p t ≡ None
  unfolding values_at
  values_at-count p t op f ps us e h apart =
      let none : side_by_side (map placed ps) us ≡ None
      = side_by_side-apart (map placed ps) us (λ same. apart (sym (mapped_length placed ps) ∙ same)) in
      ap (option_and_then (with_places shapes first before (occurrences p)))
      (placed-args p op f ps t us e h ∙ ap (λ o. cond (op.0 == f.0) o None) none ∙ either (op.0 == f.0))
    where
      either : (b : Bool) → none_either b ≡ None
      either true = refl
      either false = refl

  pub values_at-args : (p : Pattern) (t : Term) (op f : OpId) (ps : List Pattern) (us : List Term)
      → p.node ≡ pattern.App op ps → t.node ≡ term.App f us → op.0 ≡ f.0
      → values_at shapes first before p t ≡ values_at_each shapes first before ps us
  unfolding values_at values_at_each
  values_at-args p t op f ps us e h same =
      ap (λ vs. option_and_then (with_places shapes first before vs) (placed p t)) (occurrences-app p op ps e)
      ∙ ap (option_and_then (with_places shapes first before (flat_map occurrences ps)))
      (placed-args p op f ps t us e h ∙ ap (λ b. cond b (side_by_side (map placed ps) us) None) (eq-eqb op.0 f.0 same))

  one_by_one : (vs ws : List (ℕ × SortId)) (o q : Option (List Term))
      → ((us : List Term) → o ≡ Some us → length vs ≡ length us)
      → option_and_then (with_places shapes first before (vs ++ ws)) (both o q) ≡ option_and_then (λ more. option_and_then (with_places shapes first more ws) q) (option_and_then (with_places shapes first before vs) o)
  one_by_one vs ws None q many = refl
  one_by_one vs ws (Some us) None many = sym (none_after (with_places shapes first before vs us))
  one_by_one vs ws (Some us) (Some ts) many = with_places-append shapes first before vs ws us ts (many us refl)

  pub values_at_each-cons : (p : Pattern) (ps : List Pattern) (t : Term) (ts : List Term)
      → values_at_each shapes first before (p ∷ ps) (t ∷ ts) ≡ option_and_then (λ more. values_at_each shapes first more ps ts) (values_at shapes first before p t)
  unfolding values_at values_at_each
  values_at_each-cons p ps t ts
      = one_by_one (occurrences p) (flat_map occurrences ps) (placed p t) (side_by_side (map placed ps) ts) (λ us e. (placed-is shapes p t us e).many)

-- ---- what the functions answer

-- a variable that has a value
pub bind-known : (shapes : Shapes) (first : ℕ) (values : List Term) (x : ℕ) (s : SortId) (t u : Term)
    → slice_get values (x - first) ≡ Some u → Answers (same u t) values (with_place shapes first values (x, s) t)
bind-known shapes first values x s t u e = ap (λ o. with_value values o (has_sort shapes s t) t) e

-- a variable that has none
pub bind-new : (shapes : Shapes) (first : ℕ) (values more : List Term) (x : ℕ) (s : SortId) (t : Term)
    → slice_get values (x - first) ≡ None → has_sort shapes s t ≡ true → more ≡ values ++ t ∷ []
    → Answers true more (with_place shapes first values (x, s) t)
bind-new shapes first values more x s t e h grown =
    ap (λ o. with_value values o (has_sort shapes s t) t) e ∙ ap (λ b. cond b (Some (values ++ t ∷ [])) None) h ∙ ap Some (sym grown)

pub bind-other : (shapes : Shapes) (first : ℕ) (values : List Term) (x : ℕ) (s : SortId) (t : Term)
    → slice_get values (x - first) ≡ None → has_sort shapes s t ≡ false
    → Answers false values (with_place shapes first values (x, s) t)
bind-other shapes first values x s t e h =
    ap (λ o. with_value values o (has_sort shapes s t) t) e ∙ ap (λ b. cond b (Some (values ++ t ∷ [])) None) h

pub ruleset binds = (bind-known, bind-new, bind-other)

pub values_at_each-nil : (shapes : Shapes) (first : ℕ) (before : List Term)
    → values_at_each shapes first before [] [] ≡ Some before
unfolding values_at_each
values_at_each-nil shapes first before = refl

pub values_at_each-few : (shapes : Shapes) (first : ℕ) (before : List Term) (t : Term) (ts : List Term)
    → values_at_each shapes first before [] (t ∷ ts) ≡ None
unfolding values_at_each
values_at_each-few shapes first before t ts = refl

pub values_at_each-many : (shapes : Shapes) (first : ℕ) (before : List Term) (p : Pattern) (ps : List Pattern)
    → values_at_each shapes first before (p ∷ ps) [] ≡ None
unfolding values_at_each
values_at_each-many shapes first before p ps = refl

-- where the first pattern is the first term, the others go on
pub values_at_each-on : (shapes : Shapes) (first : ℕ) (before more final : List Term) (p : Pattern) (ps : List Pattern) (t : Term) (ts : List Term) (here r : Bool)
    → here ≡ true → Answers here more (values_at shapes first before p t) → Answers r final (values_at_each shapes first more ps ts)
    → Answers r final (values_at_each shapes first before (p ∷ ps) (t ∷ ts))
values_at_each-on shapes first before more final p ps t ts here r on e f =
    values_at_each-cons shapes first before p ps t ts
    ∙ ap (option_and_then (λ values. values_at_each shapes first values ps ts)) (e ∙ ap (λ b. cond b (Some more) None) on) ∙ f

-- where it is not, there are no values
pub values_at_each-off : (shapes : Shapes) (first : ℕ) (before more : List Term) (p : Pattern) (ps : List Pattern) (t : Term) (ts : List Term) (here : Bool)
    → here ≡ false → Answers here more (values_at shapes first before p t) → values_at_each shapes first before (p ∷ ps) (t ∷ ts) ≡ None
values_at_each-off shapes first before more p ps t ts here off e =
    values_at_each-cons shapes first before p ps t ts
    ∙ ap (option_and_then (λ values. values_at_each shapes first values ps ts)) (e ∙ ap (λ b. cond b (Some more) None) off)

-- the pattern's own arguments and the term's
pub values_at-in : (shapes : Shapes) (first : ℕ) (before final : List Term) (p : Pattern) (t : Term) (op f : OpId) (ps qs : List Pattern) (us ts : List Term) (r : Bool)
    → p.node ≡ pattern.App op ps → t.node ≡ term.App f us → op.0 ≡ f.0 → qs ≡ ps → ts ≡ us
    → Answers r final (values_at_each shapes first before qs ts) → Answers r final (values_at shapes first before p t)
values_at-in shapes first before final p t op f ps qs us ts r e h same eq-ps eq-ts k =
    values_at-args shapes first before p t op f ps us e h same ∙ ap (λ rs. values_at_each shapes first before rs us) (sym eq-ps)
    ∙ ap (values_at_each shapes first before qs) (sym eq-ts) ∙ k

pub values_at-bound : (shapes : Shapes) (first : ℕ) (before final : List Term) (p : Pattern) (t : Term) (x : ℕ) (s : SortId) (r : Bool)
    → p.node ≡ pattern.Var x s → Answers r final (with_place shapes first before (x, s) t) → Answers r final (values_at shapes first before p t)
values_at-bound shapes first before final p t x s r e k = values_at-var shapes first before p t x s e ∙ k

-- the same of slices
pub values_at_each-none : (shapes : Shapes) (first : ℕ) (before : List Term) (ps : List Pattern) (ts : List Term)
    → length ps < 1 → length ts < 1 → values_at_each shapes first before ps ts ≡ Some before
values_at_each-none shapes first before ps ts few few' =
    ap (λ qs. values_at_each shapes first before qs ts) (is_empty ps few) ∙ ap (values_at_each shapes first before []) (is_empty ts few') ∙ values_at_each-nil shapes first before

pub values_at_each-left : (shapes : Shapes) (first : ℕ) (before : List Term) (ps : List Pattern) (ts : List Term)
    → length ps < 1 → 1 ≤ length ts → values_at_each shapes first before ps ts ≡ None
values_at_each-left shapes first before ps ts few some = ap (λ qs. values_at_each shapes first before qs ts) (is_empty ps few) ∙ go ts some
  where
    go : (us : List Term) → 1 ≤ length us → values_at_each shapes first before [] us ≡ None
    go [] le = absurd (omega arith)
    go (u ∷ us) le = values_at_each-few shapes first before u us

pub values_at_each-lacks : (shapes : Shapes) (first : ℕ) (before : List Term) (ps : List Pattern) (ts : List Term)
    → 1 ≤ length ps → length ts < 1 → values_at_each shapes first before ps ts ≡ None
values_at_each-lacks shapes first before ps ts some few = ap (values_at_each shapes first before ps) (is_empty ts few) ∙ go ps some
  where
    go : (qs : List Pattern) → 1 ≤ length qs → values_at_each shapes first before qs [] ≡ None
    go [] le = absurd (omega arith)
    go (q ∷ qs) le = values_at_each-many shapes first before q qs

pub values_at_each-first : (shapes : Shapes) (first : ℕ) (before more final : List Term) (ps : List Pattern) (p : Pattern) (ts : List Term) (t : Term) (here r : Bool)
    → 1 ≤ length ps → p ≡ get_or ps 0 p → 1 ≤ length ts → t ≡ get_or ts 0 t
    → here ≡ true → Answers here more (values_at shapes first before p t) → Answers r final (values_at_each shapes first more (others ps) (others ts))
    → Answers r final (values_at_each shapes first before ps ts)
values_at_each-first shapes first before more final ps p ts t here r some is some' is' on e f =
    ap (λ qs. values_at_each shapes first before qs ts) (begins ps p some is) ∙ ap (values_at_each shapes first before (p ∷ others ps)) (begins ts t some' is')
    ∙ values_at_each-on shapes first before more final p (others ps) t (others ts) here r on e f

pub values_at_each-stop : (shapes : Shapes) (first : ℕ) (before more : List Term) (ps : List Pattern) (p : Pattern) (ts : List Term) (t : Term) (here : Bool)
    → 1 ≤ length ps → p ≡ get_or ps 0 p → 1 ≤ length ts → t ≡ get_or ts 0 t
    → here ≡ false → Answers here more (values_at shapes first before p t) → values_at_each shapes first before ps ts ≡ None
values_at_each-stop shapes first before more ps p ts t here some is some' is' off e =
    ap (λ qs. values_at_each shapes first before qs ts) (begins ps p some is) ∙ ap (values_at_each shapes first before (p ∷ others ps)) (begins ts t some' is')
    ∙ values_at_each-off shapes first before more p (others ps) t (others ts) here off e

pub ruleset steps = (values_at-bound, values_at-in, values_at-ints, values_at-int_app, values_at-app_int, values_at-other, values_at_each-none, values_at_each-left, values_at_each-lacks, values_at_each-first, values_at_each-stop)
