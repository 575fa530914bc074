use Rattle.std.proofs.Common.{◌≡◌, drop}
use Rattle.elan_entries.specs.Found as spec
use Rattle.elan_entries.proofs.found.put_all.Given as goal

abbrev pub invariant-loop-entry : goal.invariant-loop-entry
invariant-loop-entry l = spec.put_all l.entries (drop l.entry-index l.more) ≡ spec.put_all l.initial.entries l.more
