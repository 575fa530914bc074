use Rattle.std.proofs.Common.{refl, sym, arith}
use Rattle.elan_lexer.proofs.Texts.{turn_at, fault_at, last_at}
use Rattle.elan_lexer.proofs.whole.all.Goals as goal

pub pieces-preserved : goal.pieces-preserved
pieces-preserved c =
    let some = c.in-len1-up.len_at_least in
    let go = turn_at c.pieces.found.items c.pieces.spot c.pieces.left.now c.in-Ok.kind c.in-Ok.count _ (omega arith)
    (sym c.in-Ok.ensures.value) c.pieces.invariant.0 in (
      rw (c.in_ok-add-in-Ok.ensures.ok, c.moved-next.ensures.value, c.split_at.ensures.front, c.split_at.ensures.back) go,
      rw c.moved-next.ensures.value (omega (arith, c.split_at.ensures.front_len, c.split_at.ensures.back_len)),
      omega arith,
      omega arith,
    )

pub returns-in-Err-clause-refused : goal.returns-in-Err-clause-refused
returns-in-Err-clause-refused c =
    let met = fault_at c.pieces.found.items c.pieces.spot c.pieces.left.now c.in-Err.fault _
    (omega (arith, c.in-len1-up.len_at_least)) (sym c.in-Err.ensures.value) c.pieces.invariant.0 in
    rw c.refusal.ensures (c.in-Err.fault, met, refl, refl)

pub returns-clause-found : goal.returns-clause-found
returns-clause-found c =
    last_at c.pieces.found.items c.pieces.spot c.pieces.left.now _ c.in_default.len_below c.pieces.invariant.0
