use Rattle.std.proofs.Common.{sym, subst}
use Rattle.elan_check.specs.Validity.{IsPrepared}
use Rattle.elan_check.proofs.WalkLemmas.{whole_valid}
use Rattle.elan_check.proofs.entry.check.Goals as goal

pub prepared-requires : goal.prepared-requires
prepared-requires g c = whole_valid _ _ _ (c.in_ok-done.done, c.in_ok-done.asked) c.requires.sound c.requires.small
    c.requires.readable c.requires.reads c.in_ok-done.ensures

pub returns-clause-valid : goal.returns-clause-valid
returns-clause-valid g c = subst IsPrepared (sym c.in_ok-prepared.ensures)
    (whole_valid _ _ _ (c.in_ok-done.done, c.in_ok-done.asked) c.requires.sound c.requires.small
    c.requires.readable c.requires.reads c.in_ok-done.ensures)
