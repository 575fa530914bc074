use Rattle.elan_modules.proofs.Indexes.{found_is}
use Rattle.elan_modules.proofs.progress.Walk.is_finished.Goals as goal

pub returns : goal.returns
returns c =
    rw (c.is_some.ensures, c.number_of.ensures.value, c.as_slice-2.ensures.value, c.in_ok-key.ensures, c.as_slice.ensures, ← c.self.view_is)
    (found_is c.self.inside.keys c.self.inside.done c.args.reference.now c.self.invariant.indexed)
