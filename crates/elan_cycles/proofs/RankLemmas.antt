-- Ranks that rise along no edge.
use Rattle.std.proofs.Common.{◌≡◌, refl, ℕ, ◌≤◌, true, false, nat_le, List, [], ◌∷◌, arith}
use Rattle.std.proofs.lemmas.Bool.{leb-true, ltb-true, false_from_ne_true}
use Rattle.elan_cycles.specs.declared.edge.Edge.{Edge}
use Rattle.elan_cycles.specs.Edges.{Path, here, along, edge}
use Rattle.elan_cycles.specs.Search.{comes_back, leads}
use Rattle.elan_cycles.specs.Marks.{rank_of, falls, never_rises}
use Rattle.elan_cycles.proofs.Elements.{has_contains, all-has}
use Rattle.elan_cycles.proofs.SearchLemmas.{leads-way}

-- without ranks none rises
pub no_ranks : (edges : List Edge) → never_rises [] edges ≡ true
no_ranks [] = refl
no_ranks (e ∷ es) = no_ranks es

falls_along : (ranks : List ℕ) (edges : List Edge) → never_rises ranks edges ≡ true → {a b : ℕ} → Path edges a b
    → rank_of ranks b ≤ rank_of ranks a
falls_along ranks edges h here = omega arith
falls_along ranks edges h (along {a = a} {b = m} e p) =
    let first = leb-true (rank_of ranks m) (rank_of ranks a)
    (all-has (λ e. nat_le (rank_of ranks e.to) (rank_of ranks e.from)) edges (edge a m) h (has_contains edges (edge a m) e)) in
    let rest = falls_along ranks edges h p in
    omega (arith, first, rest)

-- an edge along which the rank falls does not come back
pub falling_leaves : (ranks : List ℕ) (edges : List Edge) (e : Edge) → never_rises ranks edges ≡ true → falls ranks e ≡ true
    → comes_back edges e ≡ false
falling_leaves ranks edges e h fall =
    false_from_ne_true (leads edges e.to e.from)
    (λ back. let up = falls_along ranks edges h (leads-way edges e.to e.from back) in
    let down = ltb-true (rank_of ranks e.to) (rank_of ranks e.from) fall in
    absurd (omega (arith, up, down)))
