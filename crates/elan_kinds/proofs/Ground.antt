-- A valid term, taken as a pattern, has its sort and uses no variable.
use Rattle.std.proofs.Common.{◌≡◌, refl, ap, ◌∙◌, ◌^◌, lt-ltb, true, cond, None, [], ◌∷◌, map, slice_get}
use Rattle.std.specs.Prelude.{unsigned_abs}
use Rattle.std.specs.List.{list_all}
use Rattle.elan_terms.specs.declared.tree.Term.{Term}
use Rattle.elan_terms.specs.declared.tree.TermNode as term
use Rattle.elan_terms.specs.declared.tree.Shapes.{Shapes}
use Rattle.elan_terms.specs.Trees.{fold_row}
use Rattle.elan_terms.specs.Term.{sort_of}
use Rattle.elan_program.specs.Extension.{int_pattern, app_pattern}
use Rattle.elan_program.specs.Patterns.{pattern_sort, sort_of_int, is_in_range, sort_over, uses}
use Rattle.elan_program.proofs.PatternLemmas.{pattern_sort-int, pattern_sort-app, uses-int, uses-app}
use Rattle.elan_terms.specs.Valid.{IsValid, IsNumber, IsAllowed}
use Rattle.elan_terms.specs.Nodes.{EachOfRow}
use Rattle.elan_meaning.specs.Meaning.{pattern_of}
use Rattle.elan_kinds.proofs.SortFits.{takes_over, and_true}

module _ (shapes : Shapes) where
  mutual
    unfolding pattern_of sort_of sort_of_int is_in_range

    sort_node : (x : term.TermNode) → IsValid shapes (record { node = x }) → pattern_sort shapes (pattern_of (record { node = x })) ≡ sort_of shapes (record { node = x })
    sort_node (term.Int z) v = pattern_sort-int shapes (int_pattern z) z refl ∙ ap (λ b. cond b shapes.int None) (lt-ltb (unsigned_abs z) (2 ^ 63) v.0)
    sort_node (term.App' op shape row) v =
        pattern_sort-app shapes (app_pattern op (fold_row int_pattern app_pattern row)) op (fold_row int_pattern app_pattern row) refl
        ∙ ap (sort_over (slice_get shapes.shapes op.0)) (sort_row row v.1) ∙ takes_over shapes (slice_get shapes.shapes op.0) (term.items-the_row-Term _ row) v.0

    sort_row : {j : _} (row : term.Row_of-Term j) → EachOfRow (IsNumber shapes) (IsAllowed shapes) row → map (pattern_sort shapes) (fold_row int_pattern app_pattern row) ≡ map (sort_of shapes) (term.items-the_row-Term _ row)
    sort_row term.end_of-Term v = refl
    sort_row (term.more_of-Term x rest) v =
        ap (λ s. s ∷ map (pattern_sort shapes) (fold_row int_pattern app_pattern rest)) (sort_node x v.0) ∙ ap (λ ss. sort_of shapes (record { node = x }) ∷ ss) (sort_row rest v.1)

  mutual
    unfolding pattern_of

    uses_node : (x : term.TermNode) → uses [] (pattern_of (record { node = x })) ≡ true
    uses_node (term.Int z) = uses-int [] (int_pattern z) z refl
    uses_node (term.App' op shape row) = uses-app [] (app_pattern op (fold_row int_pattern app_pattern row)) op (fold_row int_pattern app_pattern row) refl ∙ uses_row row

    uses_row : {j : _} (row : term.Row_of-Term j) → list_all (uses []) (fold_row int_pattern app_pattern row) ≡ true
    uses_row term.end_of-Term = refl
    uses_row (term.more_of-Term x rest) = and_true _ _ (uses_node x) (uses_row rest)

  pub own_sort : (t : Term) → IsValid shapes t → pattern_sort shapes (pattern_of t) ≡ sort_of shapes t
  own_sort t v = sort_node t.node v

  pub own_uses : (t : Term) → uses [] (pattern_of t) ≡ true
  own_uses t = uses_node t.node
