use Rattle.std.proofs.Common.{◌≡◌, ◌+◌, ◌≤◌, drop}
use Rattle.elan_entries.specs.Found as spec
use Rattle.elan_entries.proofs.found.place.Given as goal

abbrev pub invariant-loop-entry : goal.invariant-loop-entry
invariant-loop-entry l = record {
  count : l.at + spec.place (drop l.entry-index l.entries) l.key ≡ spec.place l.entries l.key;
  within : l.at ≤ l.entry-index;
}
