use Rattle.std.proofs.Common.{◌≡◌, ◌++◌, map, length}
use Rattle.elan_numbers.proofs.numbers.Numbers.names.Given as goal

-- the names so far and those that are left are all names
abbrev pub invariant-names : goal.invariant-names
invariant-names l = l.names ++ map (λ k. record { bytes = k.items }) l.left ≡ l.self

abbrev pub decreases-names : goal.decreases-names
decreases-names l = length l.left
