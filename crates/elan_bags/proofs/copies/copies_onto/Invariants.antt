use Rattle.std.proofs.Common.{◌≡◌, ◌++◌, replicate}
use Rattle.elan_table.specs.Rows.{terms}
use Rattle.elan_bags.proofs.copies.copies_onto.Given as goal

-- the row stands there so many times more
abbrev pub invariant-copies : goal.invariant-copies
invariant-copies g l = terms l.out ≡ terms l.fn.out ++ replicate l.counter l.row.value
