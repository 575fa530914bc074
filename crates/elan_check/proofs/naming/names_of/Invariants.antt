use Rattle.std.proofs.Common.{◌≡◌, ◌++◌, true, length, map}
use Rattle.std.specs.List.{list_all}
use Rattle.elan_check.specs.Laid.{names_of}
use Rattle.elan_check.specs.Lent.{seen_part, are_few}
use Rattle.elan_check.proofs.naming.names_of.Given as goal

-- the names so far and those that are left are all names
abbrev pub invariant-parts : goal.invariant-parts
invariant-parts l =
    (l.names.labels ++ (names_of (map seen_part l.left)).labels ≡ (names_of (map seen_part l.parts)).labels)
    × (l.names.heads ++ (names_of (map seen_part l.left)).heads ≡ (names_of (map seen_part l.parts)).heads)
    × (list_all are_few (map seen_part l.left) ≡ true)

abbrev pub decreases-parts : goal.decreases-parts
decreases-parts l = length l.left
