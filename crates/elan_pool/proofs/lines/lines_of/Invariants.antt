use Rattle.std.specs.Prelude.{◌≡◌, ◌+◌, length, All}
use Rattle.elan_pool.specs.Lines.{IsNewLine}
use Rattle.elan_pool.proofs.lines.lines_of.Given as goal

-- a new line for each list that is gone
abbrev pub invariant-deques : goal.invariant-deques
invariant-deques g l = (length l.lines.items + length l.deques.items ≡ length l.fn.deques.items) × All IsNewLine l.lines.items

abbrev pub decreases-deques : goal.decreases-deques
decreases-deques g l = length l.deques.items
