use Rattle.std.proofs.Common.{◌∙◌, sym, ap, subst, length}
use Rattle.elan_cycles.specs.Marks.{AreBelow}
use Rattle.elan_cycles.proofs.MarkLemmas.{marked_alone-length}
use Rattle.elan_cycles.proofs.reach.reaches.Goals as goal

pub leads-requires-clause-below : goal.leads-requires-clause-below
leads-requires-clause-below c =
    let long = ap length c.deref_mut.ensures.value ∙ marked_alone-length c.args.count c.args.from _ c.in_ok-marks.ensures in
    subst (λ n. AreBelow n c.args.edges.now) (sym long) c.requires.below
