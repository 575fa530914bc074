use Rattle.std.proofs.Common.{sym, ◌∙◌}
use Rattle.elan_terms.proofs.Sorting.{not_true}
use Rattle.elan_ac.proofs.NodeLemmas.{may, too_deep}
use Rattle.elan_ac.proofs.node.make.Goals as goal

pub intern-requires : goal.intern-requires
intern-requires g c = may g.N.Name.shapes c.args.op c.args.args.now c.requires.fits c.requires.settled (c.are_shallow.ensures.0 c.if-are_shallow.true)

pub returns-else-are_shallow : goal.returns-else-are_shallow
returns-else-are_shallow g c = too_deep c.args.op c.args.args.now (λ all. not_true (sym (c.are_shallow.ensures.1 all) ∙ c.if-are_shallow.false))
