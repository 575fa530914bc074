use Rattle.std.proofs.Common.{◌∙◌, sym}
use Rattle.elan_cycles.proofs.RankLemmas.{falling_leaves}
use Rattle.elan_cycles.proofs.graph.comes_back.Goals as goal

pub returns-then-falls : goal.returns-then-falls
returns-then-falls c =
    sym (falling_leaves c.args.ranks.now c.args.edges.now c.args.edge c.requires.ranked (sym c.falls.ensures ∙ c.if-falls.true))
