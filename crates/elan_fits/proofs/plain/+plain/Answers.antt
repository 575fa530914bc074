use Rattle.elan_fits.proofs.PlainLemmas.{is_plain-args}
use Rattle.elan_fits.proofs.plain.+plain.Goals as goal

pub is_plain-returns-then-not-is_ac : goal.is_plain-returns-then-not-is_ac
is_plain-returns-then-not-is_ac t c
    = is_plain-args _ _ _ _ _ _ _ c.in-App.is c.is_ac.ensures c.if-not-is_ac.true c.as_slice.ensures c.are_plain.ensures
