use Rattle.std.proofs.lemmas.List.{take_rest}
use Rattle.elan_check.proofs.StepLemmas.{parts_kept}
use Rattle.elan_check.proofs.steps.parts_onto.Goals as goal

pub parts-preserved : goal.parts-preserved
parts-preserved g c =
    parts_kept (g.R.Read.reads c.args.checker.now.reader.now) c.args.checker.now.signature.now c.args.checker.now.names.now
    c.parts.done c.part_onto.new.done c.parts.left.now _ c.first-item.result _ c.first-item.is c.in-len1-up.len_at_least
    (take_rest _ 1) c.in_ok-part_onto.ensures c.parts.invariant
