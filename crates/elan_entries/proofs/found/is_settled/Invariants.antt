use Rattle.std.proofs.Common.{◌≡◌, drop}
use Rattle.elan_entries.specs.Found as spec
use Rattle.elan_entries.proofs.found.is_settled.Given as goal

abbrev pub invariant-loop-entry : goal.invariant-loop-entry
invariant-loop-entry l = spec.is_settled (drop l.entry-index l.entries) l.key ≡ spec.is_settled l.entries l.key
