use Rattle.std.proofs.Common.{◌≡◌, ◌+◌, ◌*◌, ◌++◌, length, drop}
use Rattle.std.specs.List.{flat_map}
use Rattle.elan_meaning.specs.Items.{rows_of}
use Rattle.elan_plain.specs.Level as spec
use Rattle.elan_plain.proofs.level.Level.+clauses.Given as goal

abbrev pub decreases-clauses : goal.decreases-clauses
decreases-clauses g l = 8 * length l.clauses.now

abbrev pub decreases-clause : goal.decreases-clause
decreases-clause g l = 8 * length l.rest.now + 7

abbrev pub decreases-if_true : goal.decreases-if_true
decreases-if_true g l = 8 * length l.rest.now + 6

abbrev pub decreases-if_result : goal.decreases-if_result
decreases-if_result g l = 8 * length l.rest.now + 6

abbrev pub decreases-each_found : goal.decreases-each_found
decreases-each_found g l = 8 * length l.rest.now + 5

abbrev pub decreases-found : goal.decreases-found
decreases-found g l = 8 * length l.rest.now + 4

abbrev pub decreases-each_match : goal.decreases-each_match
decreases-each_match g l = 8 * length l.rest.now + 3

abbrev pub decreases-matched : goal.decreases-matched
decreases-matched g l = 8 * length l.rest.now + 1

-- the entries so far and those of the results that are left make all
abbrev pub invariant-each_found-loop-item : goal.invariant-each_found-loop-item
invariant-each_found-loop-item g l =
    let k : _ = spec.found l.world l.self.level l.left (spec.clauses l.world l.self.level l.rest) l.values in
    l.out ++ rows_of (drop l.item-index l.item-items) k ≡ rows_of l.item-items k

-- the entries so far and those of the matches that are left make all
abbrev pub invariant-each_match-loop-bound : goal.invariant-each_match-loop-bound
invariant-each_match-loop-bound g l =
    let k : _ = spec.matched l.world l.self.level (spec.clauses l.world l.self.level l.rest) l.values l.n in
    l.out ++ flat_map k (drop l.bound-index l.bound-items) ≡ flat_map k l.bound-items
