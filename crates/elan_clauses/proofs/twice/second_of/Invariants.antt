use Rattle.std.proofs.Common.{◌≡◌, length}
use Rattle.elan_clauses.specs.Rules.{none_seen, second_of}
use Rattle.elan_clauses.specs.Seen.{has_seen}
use Rattle.elan_clauses.proofs.twice.second_of.Given as goal

-- behind the words that were seen, those that are left decide
abbrev pub invariant-names : goal.invariant-names
invariant-names l = second_of l.text (has_seen l.seen) l.left ≡ second_of l.text none_seen l.numbers

abbrev pub decreases-names : goal.decreases-names
decreases-names l = length l.left
