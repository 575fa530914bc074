-- Parts as they are made: of equal arguments that stand together only how many there are counts.
use Rattle.std.specs.Prelude.{Bool, false, if◌then◌else◌, nat_lt, List, [], ◌∷◌, ◌++◌, length, map}
use Rattle.std.specs.List.{filter, flat_map}
use Rattle.elan_terms.specs.declared.tree.OpId.{OpId}
use Rattle.elan_terms.specs.declared.tree.Term.{Term}
use Rattle.elan_terms.specs.declared.tree.Shapes.{Shapes}
use Rattle.elan_terms.specs.declared.pieces.Sublists.{Sublists}
use Rattle.elan_terms.specs.Trees.{para_term, int_term, app_term}
use Rattle.elan_terms.specs.Term.{same, is_ac}
use Rattle.elan_terms.specs.Match.{prefixed}

-- whether the terms begin with this one
abbrev pub begins : Term → List Term → Bool
begins t [] = false
begins t (u ∷ us) = same t u

-- The sublists of some terms with one term more before them. Where it is equal to the first of them, it is kept in
-- those alone that keep all the equal terms that follow: the others are there already with one of these in its place.
abbrev pub with_first : Term → List Term → Sublists → Sublists
with_first t ts lists = record {
  whole = if begins t ts then prefixed lists.whole t else prefixed lists.whole t ++ prefixed lists.others t;
  others = lists.whole ++ lists.others;
}

-- the sublists, in two lists: those that have each of the equal terms with which the list begins, and the others
abbrev pub split : List Term → Sublists
split [] = record { whole = [] ∷ []; others = [] }
split (t ∷ ts) = with_first t ts (split ts)

-- the nodes of an operator over those of the lists that have at least two terms
abbrev pub nodes : OpId → List (List Term) → List Term
nodes op lists = map (app_term op) (filter (λ us. nat_lt 1 (length us)) lists)

-- the node itself, and for an AC operator each node of at least two of its arguments
unfoldable pub pieces_at : Shapes → OpId → List Term → List Term
pieces_at shapes op ts = if is_ac shapes op then nodes op (split ts).whole ++ nodes op (split ts).others else app_term op ts ∷ []

-- the node and what its arguments have, in no order
unfoldable pub pieces : Shapes → Term → List Term
pieces shapes = para_term (λ z. int_term z ∷ []) (λ op args. pieces_at shapes op (map (λ a. a.0) args) ++ flat_map (λ a. a.1) args)

-- each that is not followed by an equal one
abbrev pub once : List Term → List Term
once [] = []
once (t ∷ ts) = if begins t ts then once ts else t ∷ once ts
