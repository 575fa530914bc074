use Rattle.std.proofs.Common.{arith}
use Rattle.elan_text.proofs.Fronts.{writes_next}
use Rattle.elan_text.proofs.whole.write_all.Goals as goal

pub writes-preserved : goal.writes-preserved
writes-preserved g c =
    let next = writes_next _ _ _ _ _ _ c.writes.invariant.0 c.in-Bytes.ensures.takes in
    (rw (c.split_at.ensures.back) next, omega (arith, c.writes.invariant.1, c.write.ensures.kept))
