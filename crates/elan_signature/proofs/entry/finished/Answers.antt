use Rattle.elan_signature.proofs.NotedLemmas.{walked_noted}
use Rattle.elan_signature.proofs.entry.finished.Goals as goal

pub completed-requires-clause-noted : goal.completed-requires-clause-noted
completed-requires-clause-noted c =
    let walks = rw c.in_ok-walked.was at c.walked.ensures in
    let noted = walked_noted c.args.flat.now _ _ _ walks (rw c.new.ensures c.requires.noted) in
    rw c.as_slice.ensures noted
