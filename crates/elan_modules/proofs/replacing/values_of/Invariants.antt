use Rattle.std.proofs.Common.{◌≡◌, ℕ, List, ◌++◌, length}
use Rattle.elan_modules.specs.Sorts as spec
use Rattle.elan_modules.proofs.replacing.values_of.Given as goal

-- the parameters that differ and those that are left decide each word
abbrev pub invariant-pairs : goal.invariant-pairs
invariant-pairs l = record {
  each : length l.known ≡ length l.values;
  same : (word : List ℕ)
      → spec.value_of (l.known ++ l.left) (l.values ++ l.rest) word ≡ spec.value_of l.parameters l.sorts word;
}

abbrev pub decreases-pairs : goal.decreases-pairs
decreases-pairs l = length l.left
