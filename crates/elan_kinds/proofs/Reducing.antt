-- The value of a built-in operation is of the kind of the term.
use Rattle.std.proofs.Common.{◌≡◌, refl, sym, ap, ◌∙◌, subst, ℕ, zero, suc, ◌+◌, ◌^◌, ℤ, ◌&&◌, not, nat_lt, ltb-true, Bool, true, false, Option, None, Some, List, [], ◌∷◌, is_some, arith}
use Rattle.std.specs.Prelude.{slice_get, unsigned_abs, if◌then◌else◌, pos, negsuc, option_map}
use Rattle.std.proofs.lemmas.Option.{slice_get-map}
use Rattle.std.specs.List.{AllZip}
use Rattle.elan_terms.specs.declared.tree.OpId.{OpId}
use Rattle.elan_terms.specs.declared.tree.SortId.{SortId}
use Rattle.elan_terms.specs.declared.tree.Term.{Term}
use Rattle.elan_terms.specs.declared.tree.Shapes.{Shapes}
use Rattle.elan_terms.specs.Trees.{int_term, app_term}
use Rattle.elan_terms.specs.Term.{depth, shape_sort, sort_of, same}
use Rattle.elan_terms.specs.Match.{is_sort}
use Rattle.elan_terms.proofs.TreeLemmas.{case_term-app}
use Rattle.elan_terms.proofs.TermLemmas.{depth-int, depth-app}
use Rattle.elan_terms.proofs.MatchLemmas.{sort_of-int}
use Rattle.elan_program.specs.declared.signature.Builtin.{Builtin}
use Rattle.elan_program.specs.declared.signature.Builtin.TheVariants as by
use Rattle.elan_program.specs.declared.signature.Operator.{Operator}
use Rattle.elan_program.specs.declared.signature.Truth.{Truth}
use Rattle.elan_program.specs.declared.program.Program.{Program}
use Rattle.elan_program.specs.Signature.{shapes_of, shape_of, builtin_of, builtin_at}
use Rattle.elan_program.specs.Soundness.{is_sound_operator, builtin_fits, ac_fits, makes, takes, no_args, truth_sort, truth_fits, is_yes, is_no, has_sort_id}
use Rattle.elan_program.specs.Validity.{IsValid}
use Rattle.elan_program.specs.Builtins.{reduced, value_in, value_by, or_self, unary, binary, of_truths, of_truth, of_ints, int_value, in_range, unless_zero, said, truth_of, int_of}
use Rattle.elan_terms.specs.Valid as laws
use Rattle.elan_terms.specs.Ascending.{NotAfter}
use Rattle.elan_terms.proofs.Induction.{cases_term}
use Rattle.elan_terms.proofs.Lists.{all_from, pairs_from}
use Rattle.elan_terms.proofs.Sorting.{not_true}
use Rattle.elan_laws.proofs.CanonicalLaws.{app_valid, app_canonical, at_false, sort-of_app}
use Rattle.elan_laws.proofs.MatchLaws.{is_sort-some}
use Rattle.elan_kinds.specs.Kinds.{IsKind}
use Rattle.elan_kinds.proofs.SortFits.{both, some_inside}
use Rattle.elan_kinds.proofs.Checked.{sound_operator, truth_fit}

not_both : (b : Bool) → not b ≡ true → b ≡ false
not_both true e = not_true (sym e)
not_both false e = refl

no_sorts : (ss : List SortId) → no_args ss ≡ true → ss ≡ []
no_sorts [] e = refl
no_sorts (s ∷ ss) e = not_true (sym e)

yes_is : (b : Option Builtin) → is_yes b ≡ true → b ≡ Some by.Yes
yes_is None e = not_true (sym e)
yes_is (Some by.Yes) e = refl
yes_is (Some _) e = not_true (sym e)

no_is : (b : Option Builtin) → is_no b ≡ true → b ≡ Some by.No
no_is None e = not_true (sym e)
no_is (Some by.No) e = refl
no_is (Some _) e = not_true (sym e)

module _ (p : Program) (valid : IsValid p) where
  abbrev shapes : Shapes
  shapes = shapes_of p.signature

  shape_at : (k : ℕ) (o : Operator) → slice_get p.signature.operators k ≡ Some o → slice_get shapes.shapes k ≡ Some (shape_of o)
  unfolding shapes_of
  shape_at k o e = slice_get-map shape_of p.signature.operators k ∙ ap (option_map shape_of) e

  fits : (k : ℕ) (o : Operator) → slice_get p.signature.operators k ≡ Some o → builtin_fits p.signature o o.builtin ≡ true
  unfolding is_sound_operator
  fits k o e = (both (ac_fits o) (builtin_fits p.signature o o.builtin) (both _ _ (sound_operator p valid k o e)).1).1

  -- a constant that is not associative and commutative
  constant_kind : (op : OpId) (o : Operator) → slice_get p.signature.operators op.0 ≡ Some o → o.ac ≡ false → o.args ≡ [] → IsKind p o.sort (app_term op [])
  constant_kind op o e plain none =
      let at : slice_get shapes.shapes op.0 ≡ Some (shape_of o) = shape_at op.0 o e in
      let deep : depth (app_term op []) ≡ 1 + 0 = depth-app (app_term op []) op [] refl in
      record {
        suits = (
          app_valid shapes op [] (subst (λ s. laws.MayTake shapes s []) (sym at) (at_false o.ac _ _ plain (subst (λ ss. AllZip (laws.HasSort shapes) [] ss) (sym none) tt))) tt,
          sort-of_app shapes op [] ∙ ap shape_sort at,
        );
        canonical = app_canonical shapes op [] (λ _. (all_from _ [] tt, pairs_from NotAfter [] tt)) tt;
        shallow = omega arith;
      }

  module _ (s : SortId) where
    -- a term of the kind, if there is one
    abbrev Fine : Option Term → Type 0
    Fine None = Unit {0}
    Fine (Some v) = IsKind p s v

    or_self_kind : (u : Term) (o : Option Term) → IsKind p s u → Fine o → IsKind p s (or_self u o)
    or_self_kind u None k f = k
    or_self_kind u (Some v) k f = f

    -- ---- integers

    range_by : (z : ℤ) (b : Bool) → nat_lt (unsigned_abs z) (2 ^ 63) ≡ b → is_sort p.signature.int s ≡ true → Fine (if b then Some (int_term z) else None)
    unfolding shapes_of
    range_by z true e i =
        let own : p.signature.int ≡ Some s = is_sort-some p.signature.int s i in
        let deep : depth (int_term z) ≡ 1 = depth-int (int_term z) z refl in
        record { suits = ((ltb-true (unsigned_abs z) (2 ^ 63) e, ap is_some own), sort_of-int shapes (int_term z) z refl ∙ own); canonical = tt; shallow = omega arith }
    range_by z false e i = tt

    range_fine : (z : ℤ) → is_sort p.signature.int s ≡ true → Fine (in_range z)
    unfolding in_range
    range_fine z i = range_by z (nat_lt (unsigned_abs z) (2 ^ 63)) refl i

    unless_fine : (y z : ℤ) → is_sort p.signature.int s ≡ true → Fine (unless_zero y z)
    unfolding unless_zero
    unless_fine (pos zero) z i = tt
    unless_fine (pos (suc n)) z i = range_fine z i
    unless_fine (negsuc n) z i = range_fine z i

    -- ---- truth values

    constant_of : (op : OpId) (o : Operator) → slice_get p.signature.operators op.0 ≡ Some o → (not o.ac && (no_args o.args && is_sort (truth_sort p.signature.truth) o.sort)) ≡ true → is_sort (truth_sort p.signature.truth) s ≡ true
        → IsKind p s (app_term op [])
    constant_of op o e f t =
        let k : (not o.ac ≡ true) × ((no_args o.args && is_sort (truth_sort p.signature.truth) o.sort) ≡ true) = both _ _ f in
        let l : (no_args o.args ≡ true) × (is_sort (truth_sort p.signature.truth) o.sort ≡ true) = both _ _ k.1 in
        let same_sort : o.sort ≡ s = some_inside o.sort s (sym (is_sort-some (truth_sort p.signature.truth) o.sort l.1) ∙ is_sort-some (truth_sort p.signature.truth) s t) in
        subst (λ q. IsKind p q (app_term op [])) same_sort (constant_kind op o e (not_both o.ac k.0) (no_sorts o.args l.0))

    yes_kind : (op : OpId) (o : Option Operator) → slice_get p.signature.operators op.0 ≡ o → is_yes (builtin_of o) ≡ true → is_sort (truth_sort p.signature.truth) s ≡ true → IsKind p s (app_term op [])
    unfolding takes makes
    yes_kind op None e y t = not_true (sym y)
    yes_kind op (Some o) e y t = constant_of op o e (subst (λ b. builtin_fits p.signature o b ≡ true) (yes_is o.builtin y) (fits op.0 o e)) t

    no_kind : (op : OpId) (o : Option Operator) → slice_get p.signature.operators op.0 ≡ o → is_no (builtin_of o) ≡ true → is_sort (truth_sort p.signature.truth) s ≡ true → IsKind p s (app_term op [])
    unfolding takes makes
    no_kind op None e y t = not_true (sym y)
    no_kind op (Some o) e y t = constant_of op o e (subst (λ b. builtin_fits p.signature o b ≡ true) (no_is o.builtin y) (fits op.0 o e)) t

    said_by : (o : Option Truth) (b : Bool) → truth_fits p.signature o ≡ true → is_sort (truth_sort p.signature.truth) s ≡ true → Fine (said o b)
    unfolding builtin_at
    said_by None b f t = tt
    said_by (Some truth) b f t =
        let k : (is_yes (builtin_at p.signature truth.yes) ≡ true) × (is_no (builtin_at p.signature truth.no) ≡ true) = both _ _ (both (has_sort_id p.signature truth.sort) _ f).1 in
        chosen b (yes_kind truth.yes (slice_get p.signature.operators truth.yes.0) refl k.0 t) (no_kind truth.no (slice_get p.signature.operators truth.no.0) refl k.1 t)
      where
        chosen : (b : Bool) → IsKind p s (app_term truth.yes []) → IsKind p s (app_term truth.no []) → IsKind p s (app_term (if b then truth.yes else truth.no) [])
        chosen true x y = x
        chosen false x y = y

    said_fine : (b : Bool) → is_sort (truth_sort p.signature.truth) s ≡ true → Fine (said p.signature.truth b)
    said_fine b t = said_by p.signature.truth b (truth_fit p valid) t

    -- ---- operations

    of_truth_fine : (x : Option Bool) → is_sort (truth_sort p.signature.truth) s ≡ true → Fine (of_truth p.signature.truth x)
    of_truth_fine None t = tt
    of_truth_fine (Some x) t = said_fine (not x) t

    of_truths_fine : (f : Bool → Bool → Bool) (x y : Option Bool) → is_sort (truth_sort p.signature.truth) s ≡ true → Fine (of_truths p.signature.truth f x y)
    of_truths_fine f None y t = tt
    of_truths_fine f (Some x) None t = tt
    of_truths_fine f (Some x) (Some y) t = said_fine (f x y) t

    of_ints_fine : (f : ℤ → ℤ → Option Term) (x y : Option ℤ) → ((x y : ℤ) → Fine (f x y)) → Fine (of_ints f x y)
    of_ints_fine f None y h = tt
    of_ints_fine f (Some x) None h = tt
    of_ints_fine f (Some x) (Some y) h = h x y

    int_value_fine : (b : Builtin) (x y : ℤ) → makes p.signature b s ≡ true → Fine (int_value p.signature.truth b x y)
    unfolding int_value makes
    int_value_fine by.Add x y m = range_fine _ m
    int_value_fine by.Sub x y m = range_fine _ m
    int_value_fine by.Mul x y m = range_fine _ m
    int_value_fine by.Div x y m = unless_fine y _ m
    int_value_fine by.Mod x y m = unless_fine y _ m
    int_value_fine by.Less x y m = said_fine _ m
    int_value_fine by.LessOrSame x y m = said_fine _ m
    int_value_fine by.Greater x y m = said_fine _ m
    int_value_fine by.GreaterOrSame x y m = said_fine _ m
    int_value_fine by.IntSame x y m = said_fine _ m
    int_value_fine by.IntDiffer x y m = said_fine _ m
    int_value_fine _ x y m = tt

    unary_fine : (b : Builtin) (t : Term) → makes p.signature b s ≡ true → Fine (unary p.signature.truth b t)
    unfolding makes
    unary_fine by.Not t m = of_truth_fine (truth_of p.signature.truth t) m
    unary_fine _ t m = tt

    binary_fine : (b : Builtin) (t u : Term) → makes p.signature b s ≡ true → Fine (binary p.signature.truth b t u)
    unfolding makes
    binary_fine by.And t u m = of_truths_fine (λ x y. x && y) (truth_of p.signature.truth t) (truth_of p.signature.truth u) m
    binary_fine by.Or t u m = of_truths_fine _ (truth_of p.signature.truth t) (truth_of p.signature.truth u) m
    binary_fine by.Same t u m = said_fine (same t u) m
    binary_fine by.Differ t u m = said_fine (not (same t u)) m
    binary_fine b t u m = of_ints_fine (int_value p.signature.truth b) (int_of t) (int_of u) (λ x y. int_value_fine b x y m)

    value_fine : (b : Builtin) (ts : List Term) → makes p.signature b s ≡ true → Fine (value_by p.signature.truth (Some b) ts)
    value_fine b [] m = tt
    value_fine b (t ∷ []) m = unary_fine b t m
    value_fine b (t ∷ u ∷ []) m = binary_fine b t u m
    value_fine b (t ∷ u ∷ v ∷ ts) m = tt

    built_fine : (o : Operator) (b : Option Builtin) (ts : List Term) → builtin_fits p.signature o b ≡ true → o.sort ≡ s → Fine (value_by p.signature.truth b ts)
    built_fine o None ts f e = tt
    built_fine o (Some b) ts f e = value_fine b ts (subst (λ q. makes p.signature b q ≡ true) e (both (takes p.signature b o.args) (makes p.signature b o.sort) (both (not o.ac) _ f).1).1)

    operator_fine : (op : OpId) (ts : List Term) (o : Option Operator) → slice_get p.signature.operators op.0 ≡ o → sort_of shapes (app_term op ts) ≡ Some s → Fine (value_by p.signature.truth (builtin_of o) ts)
    operator_fine op ts None e h = tt
    operator_fine op ts (Some o) e h = built_fine o o.builtin ts (fits op.0 o e) (some_inside o.sort s (sym (sort-of_app shapes op ts ∙ ap shape_sort (shape_at op.0 o e)) ∙ h))

  ints : (s : SortId) (z : ℤ) → IsKind p s (int_term z) → IsKind p s (reduced p.signature (int_term z))
  unfolding reduced value_in
  ints s z k = k

  apps : (s : SortId) (op : OpId) (ts : List Term) → IsKind p s (app_term op ts) → IsKind p s (reduced p.signature (app_term op ts))
  unfolding reduced value_in builtin_at
  apps s op ts k = subst (λ o. IsKind p s (or_self (app_term op ts) o)) (sym (case_term-app (λ _. None) (λ op ts. value_by p.signature.truth (builtin_at p.signature op) ts) op ts))
      (or_self_kind s (app_term op ts) (value_by p.signature.truth (builtin_at p.signature op) ts) k (operator_fine s op ts (slice_get p.signature.operators op.0) refl k.suits.1))

  pub reduces : (s : SortId) (u : Term) → IsKind p s u → IsKind p s (reduced p.signature u)
  reduces s = cases_term (λ u. IsKind p s u → IsKind p s (reduced p.signature u)) (ints s) (apps s)
