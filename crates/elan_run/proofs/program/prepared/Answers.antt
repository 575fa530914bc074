use Rattle.elan_run.proofs.FlatLemmas.{readable, reads_all}
use Rattle.elan_run.proofs.program.prepared.Goals as goal

pub check-requires-clause-readable : goal.check-requires-clause-readable
check-requires-clause-readable c = readable c.args.flat.now c.requires

pub check-requires-clause-reads : goal.check-requires-clause-reads
check-requires-clause-reads c =
    reads_all c.in_ok-signature.signature c.in_ok-signature.ensures.sound c.args.flat.now c.requires
