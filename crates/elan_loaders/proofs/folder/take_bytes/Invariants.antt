use Rattle.std.specs.Io.{StartsWith}
use Rattle.elan_loaders.proofs.folder.take_bytes.Given as goal

-- what was in the buffer stands in front
abbrev pub invariant-reads : goal.invariant-reads
invariant-reads g l = StartsWith l.into.items l.fn.into.items

abbrev pub decreases-reads : goal.decreases-reads
decreases-reads g l = l.left
