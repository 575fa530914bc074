use Rattle.std.proofs.Common.{◌≡◌, ◌≤◌, ◌++◌, drop, take, length}
use Rattle.elan_terms.specs.Weight.{weight, weights}
use Rattle.elan_terms.proofs.copies.+copy.Given as goal

abbrev pub decreases-copy : goal.decreases-copy
decreases-copy l = weight l.term.now

abbrev pub decreases-push_copies : goal.decreases-push_copies
decreases-push_copies l = weights l.terms.now

-- the copies so far and the terms that are left are those that there were and all terms, and those that there were
-- come first
abbrev pub invariant-push_copies-loop-term : goal.invariant-push_copies-loop-term
invariant-push_copies-loop-term l = record {
  whole : l.copies ++ drop l.term-index l.terms ≡ l.initial.copies ++ l.terms;
  within : length l.initial.copies ≤ length l.copies;
  kept : take (length l.initial.copies) l.copies ≡ l.initial.copies;
}
