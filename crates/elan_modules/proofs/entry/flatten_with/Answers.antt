use Rattle.std.proofs.Common.{refl}
use Rattle.elan_modules.proofs.VisitLemmas.{err_is}
use Rattle.elan_modules.proofs.EntryLemmas.{hungry_still, flat_then, flat_ended, flat_given}
use Rattle.elan_modules.proofs.FlatLemmas.{stream_fits}
use Rattle.elan_modules.proofs.entry.flatten_with.Goals as goal

pub returns-in_err-stream-clause-walks : goal.returns-in_err-stream-clause-walks
returns-in_err-stream-clause-walks g c = rw (err_is _ _ c.from_residual.ensures.1) (hungry_still _ _ _ _)

pub returns-in-Ok-clause-flat : goal.returns-in-Ok-clause-flat
returns-in-Ok-clause-flat g c = λ fits.
    c.flat_of.ensures.flat _ c.in-Ok.ensures.first (rw c.in_ok-stream.ensures (stream_fits _ _ c.args.outline fits))

pub returns-in-Ok-clause-walks : goal.returns-in-Ok-clause-walks
returns-in-Ok-clause-walks g c =
    let walks = rw (c.in-Ok.is, c.in_ok-stream.ensures) at c.walked.ensures.walks in
    rw c.flat_of.ensures.value (flat_then _ _ _ _ _ _ _ walks (flat_given _ _ refl))

pub returns-in-Err-clause-walks : goal.returns-in-Err-clause-walks
returns-in-Err-clause-walks g c =
    let walks = rw (c.in-Err.is, c.in_ok-stream.ensures) at c.walked.ensures.walks in
    flat_ended _ _ _ _ _ _ walks
