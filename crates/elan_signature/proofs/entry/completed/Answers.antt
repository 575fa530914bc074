use Rattle.elan_signature.proofs.SoundLemmas.{sound_when}
use Rattle.elan_signature.proofs.entry.completed.Goals as goal

pub returns-clause-sound : goal.returns-clause-sound
returns-clause-sound c =
    let fit = rw c.in_ok-look_operators.was at c.look_operators.ensures in
    let ok = rw c.in_ok-look_cycles.was at c.look_cycles.ensures in
    sound_when c.args.signature c.args.injections.now c.requires.sorts c.requires.operators c.requires.noted fit ok
