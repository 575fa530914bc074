use Rattle.std.proofs.Common.{◌≡◌, ◌++◌, true, length, map}
use Rattle.std.specs.List.{list_all}
use Rattle.elan_clauses.specs.Offered.{has_few}
use Rattle.elan_check.specs.Laid.{head_of}
use Rattle.elan_check.proofs.naming.heads_onto.Given as goal

-- the heads so far and those that are left are all heads
abbrev pub invariant-definitions : goal.invariant-definitions
invariant-definitions l =
    (l.out ++ map (head_of l.text l.sort) l.left ≡ l.fn.out ++ map (head_of l.text l.sort) l.fn.definitions)
    × (list_all has_few l.left ≡ true)

abbrev pub decreases-definitions : goal.decreases-definitions
decreases-definitions l = length l.left
