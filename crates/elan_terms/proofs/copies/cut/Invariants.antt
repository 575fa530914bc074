use Rattle.std.proofs.Common.{◌≡◌, ◌≤◌, length, take}
use Rattle.elan_terms.proofs.copies.cut.Given as goal

-- enough are left, and the first of them are those that there were
abbrev pub invariant-loop-terms : goal.invariant-loop-terms
invariant-loop-terms l = record {
  enough : l.len ≤ length l.terms;
  kept : take l.len l.terms ≡ take l.len l.initial.terms;
}

abbrev pub decreases-loop-terms : goal.decreases-loop-terms
decreases-loop-terms l = length l.terms
