use Rattle.std.proofs.Common.{◌≡◌, [], length}
use Rattle.elan_modules.specs.Visits as spec
use Rattle.elan_modules.proofs.entry.named_twice.Given as goal

-- the modules that are left decide, behind those with these names
abbrev pub invariant-modules : goal.invariant-modules
invariant-modules l = spec.named_twice l.stream l.names l.left ≡ spec.named_twice l.stream [] l.stream.modules

abbrev pub decreases-modules : goal.decreases-modules
decreases-modules l = length l.left
