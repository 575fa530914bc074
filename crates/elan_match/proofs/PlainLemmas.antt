-- A pattern without associative and commutative operators, filled with canonical terms, is canonical.
use Rattle.std.proofs.Common.{◌≡◌, refl, sym, ap, ◌∙◌, Bool, true, false, ◌&&◌, not, List, [], ◌∷◌, map, ℕ, ℤ}
use Rattle.std.specs.List.{list_all}
use Rattle.elan_terms.specs.declared.tree.OpId.{OpId}
use Rattle.elan_terms.specs.declared.tree.SortId.{SortId}
use Rattle.elan_terms.specs.declared.tree.Pattern.{Pattern}
use Rattle.elan_terms.specs.declared.tree.PatternNode as pattern
use Rattle.elan_terms.specs.declared.tree.Term.{Term}
use Rattle.elan_terms.specs.declared.tree.Shapes.{Shapes}
use Rattle.elan_terms.specs.Trees.{int_term, app_term, fold_pattern_row}
use Rattle.elan_terms.specs.Term.{is_ac}
use Rattle.elan_terms.proofs.TreeLemmas.{fold_pattern-app}
use Rattle.elan_terms.specs.Canonical.{IsCanonical}
use Rattle.elan_laws.specs.Matching.{filled}
use Rattle.elan_terms.proofs.Lists.{AllOf}
use Rattle.elan_terms.proofs.Sorting.{not_true}
use Rattle.elan_laws.proofs.CanonicalLaws.{app_canonical}
use Rattle.elan_match.specs.Plain.{is_plain}

both_are : (a b : Bool) → a && b ≡ true → (a ≡ true) × (b ≡ true)
both_are true b e = (refl, e)
both_are false b e = not_true (sym e)

is_not : (b : Bool) → not b ≡ true → b ≡ true → ⊥
is_not true e f = not_true (sym e)
is_not false e f = not_true (sym f)

module _ (shapes : Shapes) (value : ℕ → Term) (canonical : (x : ℕ) → IsCanonical shapes (value x)) where
  mutual
    unfolding is_plain filled

    node_canonical : (n : pattern.PatternNode) → is_plain shapes (record { node = n }) ≡ true → IsCanonical shapes (filled value (record { node = n }))
    node_canonical (pattern.Var x s) e = canonical x
    node_canonical (pattern.Int z) e = tt
    node_canonical (pattern.App' op shape row) e =
        let k : (not (is_ac shapes op) ≡ true) × (list_all (λ plain. plain) (fold_pattern_row (λ _ _. true) (λ _. true) (λ f each. not (is_ac shapes f) && list_all (λ plain. plain) each) row) ≡ true)
        = both_are (not (is_ac shapes op)) _ e in
        app_canonical shapes op (fold_pattern_row (λ x _. value x) int_term app_term row) (λ ac. absurd (is_not (is_ac shapes op) k.0 ac)) (row_canonical row k.1)

    row_canonical : {n : _} (row : pattern.Row_of-Pattern n)
        → list_all (λ plain. plain) (fold_pattern_row (λ _ _. true) (λ _. true) (λ f each. not (is_ac shapes f) && list_all (λ plain. plain) each) row) ≡ true
        → AllOf (IsCanonical shapes) (fold_pattern_row (λ x _. value x) int_term app_term row)
    row_canonical pattern.end_of-Pattern e = tt
    row_canonical (pattern.more_of-Pattern x rest) e =
        let k : (is_plain shapes (record { node = x }) ≡ true) × (list_all (λ plain. plain) (fold_pattern_row (λ _ _. true) (λ _. true) (λ f each. not (is_ac shapes f) && list_all (λ plain. plain) each) rest) ≡ true)
        = both_are (is_plain shapes (record { node = x })) _ e in
        (node_canonical x k.0, row_canonical rest k.1)

  pub filled-canonical : (p : Pattern) → is_plain shapes p ≡ true → IsCanonical shapes (filled value p)
  filled-canonical p e = node_canonical p.node e

-- ---- the equations

pub is_plain-var : (shapes : Shapes) (p : Pattern) (x : ℕ) (s : SortId) → p.node ≡ pattern.Var x s
    → is_plain shapes p ≡ true
unfolding is_plain
is_plain-var shapes p x s e = ap (λ n. is_plain shapes (record { node = n })) e

pub is_plain-int : (shapes : Shapes) (p : Pattern) (z : ℤ) → p.node ≡ pattern.Int z → is_plain shapes p ≡ true
unfolding is_plain
is_plain-int shapes p z e = ap (λ n. is_plain shapes (record { node = n })) e

mapped_all : {X : Type 0} (test : X → Bool) (xs : List X) → list_all (λ b. b) (map test xs) ≡ list_all test xs
mapped_all test [] = refl
mapped_all test (x ∷ xs) = ap (λ b. test x && b) (mapped_all test xs)

pub is_plain-app : (shapes : Shapes) (p : Pattern) (op : OpId) (ps : List Pattern) → p.node ≡ pattern.App op ps
    → is_plain shapes p ≡ not (is_ac shapes op) && list_all (is_plain shapes) ps
unfolding is_plain
is_plain-app shapes p op ps e =
    ap (λ n. is_plain shapes (record { node = n })) e
    ∙ fold_pattern-app (λ _ _. true) (λ _. true) (λ f each. not (is_ac shapes f) && list_all (λ plain. plain) each) op ps
    ∙ ap (λ b. not (is_ac shapes op) && b) (mapped_all (is_plain shapes) ps)

pub is_plain-args : (shapes : Shapes) (p : Pattern) (op : OpId) (ps qs : List Pattern) (r b : Bool)
    → p.node ≡ pattern.App op ps → r ≡ is_ac shapes op → r ≡ false → qs ≡ ps → b ≡ list_all (is_plain shapes) qs
    → b ≡ is_plain shapes p
is_plain-args shapes p op ps qs r b e f off args all =
    all ∙ ap (list_all (is_plain shapes)) args ∙ ap (λ ac. not ac && list_all (is_plain shapes) ps) (sym off ∙ f)
    ∙ sym (is_plain-app shapes p op ps e)

pub is_plain-ac : (shapes : Shapes) (p : Pattern) (op : OpId) (ps : List Pattern) (r : Bool)
    → p.node ≡ pattern.App op ps → r ≡ is_ac shapes op → r ≡ true → false ≡ is_plain shapes p
is_plain-ac shapes p op ps r e f on = ap (λ ac. not ac && list_all (is_plain shapes) ps) (sym on ∙ f)
    ∙ sym (is_plain-app shapes p op ps e)

pub ruleset plain_rules = (is_plain-var, is_plain-int, is_plain-args, is_plain-ac)
