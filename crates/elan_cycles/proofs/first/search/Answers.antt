use Rattle.std.proofs.Common.{◌∙◌, sym, ap, slice_index_or}
use Rattle.std.proofs.lemmas.Iterator.Adapters.{position_from-zero}
use Rattle.elan_cycles.specs.Edges.{edge}
use Rattle.elan_cycles.specs.Search.{comes_back}
use Rattle.elan_cycles.proofs.FirstLemmas.{position-here, position-end}
use Rattle.elan_cycles.proofs.first.search.Goals as goal

pub returns-then-branch : goal.returns-then-branch
returns-then-branch c =
    let at = slice_index_or c.args.edges.now c.edges.at (edge 0 0) in
    let passes = ap (λ es. comes_back es at) (sym c.requires) ∙ sym c.in_ok-comes_back.ensures ∙ c.if-branch.true in
    sym (position-here (comes_back c.args.edges.now) c.edges.at c.args.edges.now (edge 0 0) c.edges-test.true passes)
    ∙ c.edges.invariant ∙ sym (position_from-zero (comes_back c.args.edges.now) c.args.edges.now)

pub returns : goal.returns
returns c =
    sym (position-end (comes_back c.args.edges.now) c.edges.at c.args.edges.now c.edges-test.false)
    ∙ c.edges.invariant ∙ sym (position_from-zero (comes_back c.args.edges.now) c.args.edges.now)
