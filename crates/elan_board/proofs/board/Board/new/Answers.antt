use Rattle.std.proofs.Common.{rules, ◌≡◌, ◌∷◌, [], ◌++◌, ◌∙◌, length, sym, subst, All}
use native.Mathlib.Omega.{arith}
use Rattle.elan_board.specs.Seats.{IsNew}
use Rattle.elan_board.proofs.Seats.{one_more}
use Rattle.elan_board.proofs.board.Board.new.Goals as goal

pub loop-i-preserved : goal.loop-i-preserved
loop-i-preserved g c =
    let more = one_more IsNew c.loop-i.made.items c.in_ok-seat_of.field-0 c.loop-i.invariant.3 c.in_ok-seat_of.ensures.new in
    let all : All IsNew c.push.new.self.items = subst (All IsNew) (sym c.in_ok-push.ensures.items) more in (
      omega (arith, c.loop-i.invariant.0, c.in_ok-seat_of.ensures.parts.0),
      c.in_ok-seat_of.ensures.parts.1 ∙ c.loop-i.invariant.1,
      search rules,
      all,
      c.seat_of.ensures.watch.0 ∙ c.loop-i.invariant.4,
      c.seat_of.ensures.watch.1 ∙ c.loop-i.invariant.5,
    )
