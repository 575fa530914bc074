use Rattle.elan_cycles.proofs.MarkLemmas.{reached_exactly}
use Rattle.std.proofs.Common.{◌∙◌}
use Rattle.elan_cycles.proofs.reach.leads.Goals as goal

pub returns : goal.returns
returns c =
    c.is_marked.ensures
    ∙ reached_exactly c.args.edges.now c.args.from c.args.to c.args.marks.now c.walk.new.marks c.settle.new.marks c.requires.within
    c.requires.alone c.in_ok-walk.ensures c.settle.ensures.widens c.settle.ensures.closed
