use Rattle.std.specs.Prelude.{◌≡◌, ◌+◌, length, All}
use Rattle.elan_board.specs.Rule.{look}
use Rattle.elan_board.specs.Seats.{IsNew}
use Rattle.elan_board.proofs.board.Board.new.Given as goal

-- a part for each seat that is still to be made, nothing was counted, and each seat is new
abbrev pub invariant-loop-i : goal.invariant-loop-i
invariant-loop-i g l =
    (l.rest.parts + l._i ≡ l.seats + 1)
    × (l.rest.amount ≡ 0)
    × (length l.made.items ≡ l._i)
    × All IsNew l.made.items
    × (l.watch.mark.table_id ≡ l.words.value.words.shared.table_id)
    × (l.watch.mark.me.0 ≡ look 0 0 0 0 0 0)
