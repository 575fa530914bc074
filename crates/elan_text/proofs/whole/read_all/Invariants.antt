use Rattle.std.proofs.Common.{◌≡◌, ◌≤◌, length, ◌+◌, ◌-◌}
use Rattle.elan_text.specs.Streams.{Consumes}
use Rattle.elan_text.proofs.whole.read_all.Given as goal

-- the source is past what was found so far, which is at most one buffer past the limit, and its count of faults did not fall
abbrev pub invariant-reads : goal.invariant-reads
invariant-reads g l =
    Consumes (g.S.Source.left l.fn.source) l.found.items (g.S.Source.left l.source)
    × (g.S.Source.failures l.fn.source ≤ g.S.Source.failures l.source)
    × (length l.found.items ≤ l.fn.max + 16384)
    × (length l.chunk ≡ 16384)

abbrev pub decreases-reads : goal.decreases-reads
decreases-reads g l = l.fn.max + 1 - length l.found.items
