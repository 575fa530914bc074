-- Matches have a value for each variable.
use Rattle.std.proofs.Common.{◌≡◌, ap, ◌∙◌, inl, inr, ℕ, suc, List, [], ◌∷◌, length, All}
use Rattle.elan_terms.specs.declared.tree.SortId.{SortId}
use Rattle.elan_terms.specs.declared.tree.Term.{Term}
use Rattle.elan_terms.specs.declared.tree.Pattern.{Pattern}
use Rattle.elan_terms.specs.declared.tree.Shapes.{Shapes}
use Rattle.elan_terms.specs.Match.{variables, matches, assignments, choices, prefixed, fits}
use Rattle.elan_terms.proofs.Lists.{In, all_in, all_from, in_filter, in_flat, in_map}

choices_long : (shapes : Shapes) (all : List Term) (vs : List (ℕ × SortId)) (a : List Term) → In a (choices shapes all vs) → length a ≡ length vs
unfolding prefixed
choices_long shapes all [] a (inl e) = ap length e
choices_long shapes all [] a (inr i) = elim i [ ]
choices_long shapes all (v ∷ vs) a i =
    let f : (u : Term) × In u _ × In a (prefixed (choices shapes all vs) u) = in_flat (prefixed (choices shapes all vs)) _ a i in
    let g : (ts : List Term) × In ts (choices shapes all vs) × (a ≡ f.0 ∷ ts) = in_map (λ ts. f.0 ∷ ts) (choices shapes all vs) a f.2 in
    ap length g.2 ∙ ap suc (choices_long shapes all vs g.0 g.1)

pub matches-long : (shapes : Shapes) (p : Pattern) (t : Term) → All (λ a. length a ≡ length (variables p)) (matches shapes p t)
unfolding matches assignments
matches-long shapes p t = all_from (λ a. length a ≡ length (variables p)) (matches shapes p t) (all_in (λ a. length a ≡ length (variables p)) (matches shapes p t)
    (λ a i. choices_long shapes _ (variables p) a (in_filter (fits shapes (variables p) p t) (assignments shapes p t) a i).0))
