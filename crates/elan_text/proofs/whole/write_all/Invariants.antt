use Rattle.std.proofs.Common.{◌≡◌, ◌≤◌, length, List, ◌++◌, ℕ}
use Rattle.elan_text.specs.Streams.{Appends}
use Rattle.elan_text.proofs.whole.write_all.Given as goal

-- what was written so far and what is left make the piece, and the count of faults did not fall
abbrev pub invariant-writes : goal.invariant-writes
invariant-writes g l =
    ((done : List ℕ) × (l.fn.bytes ≡ done ++ l.left) × Appends (g.K.Sink.written l.fn.sink) done (g.K.Sink.written l.sink))
    × (g.K.Sink.failures l.fn.sink ≤ g.K.Sink.failures l.sink)

abbrev pub decreases-writes : goal.decreases-writes
decreases-writes g l = length l.left
