-- Parts of a term are no deeper than it; the values of a match are of their kinds; what a good rule matches is of its sort.
use Rattle.std.proofs.Common.{◌≡◌, refl, sym, ap, ◌∙◌, inl, inr, subst, ◌+◌, ◌≤◌, true, List, [], ◌∷◌, map, length, max, Contains, arith}
use Rattle.std.specs.List.{AllZip}
use Rattle.std.proofs.Math.Nat.{le-max_left, le-max_right, max-le}
use Rattle.elan_terms.specs.declared.tree.OpId.{OpId}
use Rattle.elan_terms.specs.declared.tree.SortId.{SortId}
use Rattle.elan_terms.specs.declared.tree.Term.{Term}
use Rattle.elan_terms.specs.declared.tree.Pattern.{Pattern}
use Rattle.elan_terms.specs.declared.tree.Shapes.{Shapes}
use Rattle.elan_terms.specs.Trees.{app_term}
use Rattle.elan_terms.specs.Term.{depth, greatest, sort_of}
use Rattle.elan_terms.specs.Match.{matches, variables, bound}
use Rattle.elan_terms.proofs.TermLemmas.{depth-app}
use Rattle.elan_program.specs.declared.program.Rule.{Rule}
use Rattle.elan_program.specs.declared.program.Program.{Program}
use Rattle.elan_program.specs.Signature.{shapes_of}
use Rattle.elan_program.specs.Patterns.{are_numbered, uses, binds}
use Rattle.elan_terms.specs.Valid.{IsValidOf}
use Rattle.elan_laws.specs.Parts.{SomeOf, none, taken, left, IsPart, whole, inside, some}
use Rattle.elan_laws.specs.Matching.{filled, MayHave, IsMatch}
use Rattle.elan_terms.proofs.Lists.{In, in_of_contains}
use Rattle.elan_laws.proofs.CanonicalLaws.{canon-sort}
use Rattle.elan_laws.proofs.MatchLaws.{zip_weaker, part-canonical, matches-exact}
use Rattle.elan_laws.proofs.SortLaws.{part-valid, match-valid, filled-suits}
use Rattle.elan_kinds.specs.Kinds.{IsKind, Given}
use Rattle.elan_kinds.proofs.Keeping.{IsGood}
use Rattle.elan_kinds.proofs.SortFits.{both, some_inside}

deep : (op : OpId) (ts : List Term) → depth (app_term op ts) ≡ 1 + greatest (map depth ts)
deep op ts = depth-app (app_term op ts) op ts refl

in_deep : (ts : List Term) (t : Term) → In t ts → depth t ≤ greatest (map depth ts)
in_deep [] t i = elim i [ ]
in_deep (u ∷ ts) t (inl e) = subst (λ v. depth v ≤ max (depth u) (greatest (map depth ts))) (sym e) (le-max_left (depth u) (greatest (map depth ts)))
in_deep (u ∷ ts) t (inr i) = let later : depth t ≤ greatest (map depth ts) = in_deep ts t i in let side : greatest (map depth ts) ≤ max (depth u) (greatest (map depth ts)) = le-max_right (depth u) (greatest (map depth ts)) in omega arith

some_deep : {us ts : List Term} → SomeOf us ts → greatest (map depth us) ≤ greatest (map depth ts)
some_deep none = omega arith
some_deep (taken {x = x} {us = us} {ts = ts} s) =
    let k : greatest (map depth us) ≤ greatest (map depth ts) = some_deep s in
    let l : depth x ≤ max (depth x) (greatest (map depth ts)) = le-max_left (depth x) (greatest (map depth ts)) in
    let r : greatest (map depth ts) ≤ max (depth x) (greatest (map depth ts)) = le-max_right (depth x) (greatest (map depth ts)) in
    max-le l (omega arith)
some_deep (left {x = x} {us = us} {ts = ts} s) =
    let k : greatest (map depth us) ≤ greatest (map depth ts) = some_deep s in
    let r : greatest (map depth ts) ≤ max (depth x) (greatest (map depth ts)) = le-max_right (depth x) (greatest (map depth ts)) in
    omega arith

pub part-depth : (shapes : Shapes) (p t : Term) → IsPart shapes p t → depth p ≤ depth t
part-depth shapes p t (whole e) = subst (λ u. depth u ≤ depth t) (sym e) (omega arith)
part-depth shapes p t (inside op ts u i h) =
    let one : depth p ≤ depth u = part-depth shapes p u h in
    let two : depth u ≤ greatest (map depth ts) = in_deep ts u (in_of_contains ts u i) in
    let three : depth (app_term op ts) ≡ 1 + greatest (map depth ts) = deep op ts in
    omega arith
part-depth shapes p t (some op ts us ac s two e) =
    let one : greatest (map depth us) ≤ greatest (map depth ts) = some_deep s in
    let two : depth (app_term op us) ≡ 1 + greatest (map depth us) = deep op us in
    let three : depth (app_term op ts) ≡ 1 + greatest (map depth ts) = deep op ts in
    let four : depth p ≡ depth (app_term op us) = ap depth e in
    omega arith

module _ (p : Program) where
  abbrev shapes : Shapes
  shapes = shapes_of p.signature

  module _ (q : Pattern) (s : SortId) (t : Term) (k : IsKind p s t) (a : List Term) (c : Contains (matches shapes q t) a) where
    pub is_match : IsMatch shapes q t a
    is_match = (matches-exact shapes q t k.suits.0 k.canonical a).0 c

    -- the values of a match are of their kinds
    pub match_kinds : AllZip (λ v u. IsKind p v.1 u) (variables q) a
    match_kinds = zip_weaker (MayHave shapes t) (λ v u. IsKind p v.1 u)
        (λ v u h. let d : depth u ≤ depth t = part-depth shapes u t h.0 in let d' : depth t ≤ 2000 = k.shallow in
        record { suits = (part-valid shapes u t k.suits.0 h.0, h.1); canonical = part-canonical shapes u t k.canonical h.0; shallow = omega arith })
        (variables q) a is_match.given

  module _ (r : Rule) (good : IsGood p r) (s : SortId) (t : Term) (k : IsKind p s t) (a : List Term) (c : Contains (matches shapes r.left t) a) where
    parted : (are_numbered (length p.signature.sorts) 0 (variables r.left) ≡ true) × (uses (variables r.left) r.left ≡ true)
    unfolding binds
    parted = both (are_numbered (length p.signature.sorts) 0 (variables r.left)) (uses (variables r.left) r.left) good.fresh

    pub match_given : Given p (variables r.left) a
    match_given = record { numbered = parted.0; values = match_kinds r.left s t k a c }

    -- what a rule matches is of its sort
    pub match_sort : s ≡ r.sort
    match_sort =
        let m : IsMatch shapes r.left t a = is_match r.left s t k a c in
        let f : IsValidOf shapes r.sort (filled (bound (variables r.left) a) r.left)
        = filled-suits shapes (length p.signature.sorts) (variables r.left) r.left r.sort a good.left parted.1 parted.0 (match-valid shapes r.left t a k.suits.0 m) in
        some_inside s r.sort (sym k.suits.1 ∙ ap (sort_of shapes) (sym m.makes) ∙ canon-sort shapes (filled (bound (variables r.left) a) r.left) ∙ f.1)
