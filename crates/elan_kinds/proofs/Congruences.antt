-- The arguments of a term that a congruence works on, and the terms that it makes.
use Rattle.std.proofs.Common.{◌≡◌, refl, sym, ap, ◌∙◌, ⊎_elim, subst, ◌+◌, ◌≤◌, cond, Option, None, Some, List, [], ◌∷◌, map, max, arith}
use Rattle.std.specs.Prelude.{slice_get, option_map}
use Rattle.std.specs.List.{AllZip}
use Rattle.std.proofs.Math.Nat.{le-max_left, le-max_right}
use Rattle.std.proofs.lemmas.Option.{slice_get-map}
use Rattle.elan_terms.specs.declared.tree.OpId.{OpId}
use Rattle.elan_terms.specs.declared.tree.SortId.{SortId}
use Rattle.elan_terms.specs.declared.tree.Shapes.{Shapes}
use Rattle.elan_terms.specs.declared.tree.Term.{Term}
use Rattle.elan_terms.specs.declared.tree.TermNode as term
use Rattle.elan_terms.specs.Trees.{fold_row, app_term}
use Rattle.elan_terms.specs.Term.{depth, greatest, shape_sort}
use Rattle.elan_program.specs.declared.signature.Operator.{Operator}
use Rattle.elan_program.specs.declared.program.Program.{Program}
use Rattle.elan_program.specs.Signature.{shape_of, shapes_of}
use Rattle.elan_program.specs.Validity.{congruent_sorts}
use Rattle.elan_terms.specs.Valid.{HasSort, MayTake, IsValid, IsValidOf, IsNumber, IsAllowed}
use Rattle.elan_terms.specs.Canonical.{IsSettled}
use Rattle.elan_terms.specs.Nodes.{EachOfRow}
use Rattle.elan_terms.proofs.Lists.{AllOf}
use Rattle.elan_laws.proofs.CanonicalLaws.{app_valid, sort-of_app, at_false, true_or_false}
use Rattle.elan_terms.proofs.NodeLemmas.{match_false}
use Rattle.elan_meaning.specs.Meaning.{max_depth}
use Rattle.elan_kinds.specs.Kinds.{IsKind}
use Rattle.elan_kinds.proofs.Checked.{no_item}
use Rattle.elan_kinds.proofs.SortFits.{Solid}

-- the lists of sorts in two options
sorts_inside : (xs ys : List SortId) → Some xs ≡ Some ys → xs ≡ ys
sorts_inside xs ys e = ap (λ o. elim o as (λ _. List SortId) [ None ↦ [] | Some zs ↦ zs ]) e

-- ---- a row of arguments

-- the depths of a row of terms are those of its list
depth_row : {j : _} (row : term.Row_of-Term j) → fold_row (λ _. 1) (λ _ ds. 1 + greatest ds) row ≡ map depth (term.items-the_row-Term _ row)
unfolding depth
depth_row term.end_of-Term = refl
depth_row (term.more_of-Term x rest) = ap (λ ds. depth (record { node = x }) ∷ ds) (depth_row rest)

module _ (p : Program) where
  abbrev shapes : Shapes
  shapes = shapes_of p.signature

  pub solid_row : {j : _} (row : term.Row_of-Term j) → EachOfRow (IsNumber shapes) (IsAllowed shapes) row → EachOfRow (λ _. Unit {0}) (IsSettled shapes) row
      → AllOf (Solid shapes) (term.items-the_row-Term _ row)
  solid_row term.end_of-Term v c = tt
  solid_row (term.more_of-Term x rest) v c = ((v.0, c.0), solid_row rest v.1 c.1)

  -- the arguments of a term that is not too deep
  pub shallow_row : (op : OpId) (shape : _) (row : _) → depth (record { node = term.App' op shape row }) ≤ max_depth
      → greatest (map depth (term.items-the_row-Term _ row)) ≤ max_depth
  unfolding depth
  shallow_row op shape row le =
      let same : greatest (fold_row (λ _. 1) (λ _ ds. 1 + greatest ds) row) ≡ greatest (map depth (term.items-the_row-Term _ row))
      = ap greatest (depth_row row) in
      omega arith

  pub kinds_of : (us : List Term) (sorts : List SortId) → AllOf (Solid shapes) us → AllZip (HasSort shapes) us sorts → greatest (map depth us) ≤ max_depth
      → AllZip (IsKind p) sorts us
  kinds_of [] [] k z le = tt
  kinds_of [] (s ∷ sorts) k z le = absurd z
  kinds_of (u ∷ us) [] k z le = absurd z
  kinds_of (u ∷ us) (s ∷ sorts) k z le =
      let first : depth u ≤ max (depth u) (greatest (map depth us)) = le-max_left (depth u) (greatest (map depth us)) in
      let later : greatest (map depth us) ≤ max (depth u) (greatest (map depth us)) = le-max_right (depth u) (greatest (map depth us)) in
      (record { suits = (k.0.0, z.0); canonical = k.0.1; shallow = omega arith }, kinds_of us sorts k.1 z.1 (omega arith))

  sorts_of_kinds : (us : List Term) (sorts : List SortId) → AllZip (IsKind p) sorts us → AllZip (HasSort shapes) us sorts × AllOf (IsValid shapes) us
  sorts_of_kinds [] [] h = (tt, tt)
  sorts_of_kinds [] (s ∷ sorts) h = absurd h
  sorts_of_kinds (u ∷ us) [] h = absurd h
  sorts_of_kinds (u ∷ us) (s ∷ sorts) h =
      let later : AllZip (HasSort shapes) us sorts × AllOf (IsValid shapes) us = sorts_of_kinds us sorts h.1 in
      ((h.0.suits.1, later.0), (h.0.suits.0, later.1))

  -- ---- what the operator of a congruence takes

  takes_these : (o : Option Operator) (sorts : List SortId) (us : List Term) → congruent_sorts o ≡ Some sorts
      → MayTake shapes (option_map shape_of o) us → AllZip (HasSort shapes) us sorts
  takes_these None sorts us e h = no_item sorts e
  takes_these (Some o) sorts us e h = ⊎_elim
      (λ ac. no_item sorts (sym (ap (λ b. cond b None (Some o.args)) ac) ∙ e))
      (λ plain. subst (AllZip (HasSort shapes) us) (sorts_inside o.args sorts (sym (ap (λ b. cond b None (Some o.args)) plain) ∙ e))
      (match_false o.ac _ _ plain h))
      (true_or_false o.ac)

  may_take : (o : Option Operator) (sorts : List SortId) (us : List Term) → congruent_sorts o ≡ Some sorts
      → AllZip (HasSort shapes) us sorts → MayTake shapes (option_map shape_of o) us
  may_take None sorts us e h = no_item sorts e
  may_take (Some o) sorts us e h = ⊎_elim
      (λ ac. no_item sorts (sym (ap (λ b. cond b None (Some o.args)) ac) ∙ e))
      (λ plain. at_false o.ac _ _ plain (subst (AllZip (HasSort shapes) us) (sym (sorts_inside o.args sorts (sym (ap (λ b. cond b None (Some o.args)) plain) ∙ e))) h))
      (true_or_false o.ac)

  module _ (op : OpId) (sorts : List SortId) (e : congruent_sorts (slice_get p.signature.operators op.0) ≡ Some sorts) where
    at_shape : slice_get shapes.shapes op.0 ≡ option_map shape_of (slice_get p.signature.operators op.0)
    unfolding shapes_of
    at_shape = slice_get-map shape_of p.signature.operators op.0

    -- its arguments are of its argument sorts
    pub taken_sorts : (us : List Term) → IsAllowed shapes op us → AllZip (HasSort shapes) us sorts
    taken_sorts us h =
        takes_these (slice_get p.signature.operators op.0) sorts us e (subst (λ o. MayTake shapes o us) at_shape h)

    -- over terms of the kinds of its argument sorts it makes a valid term
    pub made_valid : (us : List Term) (s : SortId) → shape_sort (slice_get shapes.shapes op.0) ≡ Some s → AllZip (IsKind p) sorts us
        → IsValidOf shapes s (app_term op us)
    made_valid us s own h =
        let k : AllZip (HasSort shapes) us sorts × AllOf (IsValid shapes) us = sorts_of_kinds us sorts h in (
          app_valid shapes op us
              (subst (λ o. MayTake shapes o us) (sym at_shape) (may_take (slice_get p.signature.operators op.0) sorts us e k.0)) k.1,
          sort-of_app shapes op us ∙ own,
        )
