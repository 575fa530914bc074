use Rattle.std.proofs.Common.{◌≡◌, ◌+◌, ◌≤◌, drop}
use Rattle.elan_fits.specs.Looks.{first_same}
use Rattle.elan_fits.proofs.strike.first_same.Given as goal

-- the terms passed, and those before the first among the ones left, are all that stand before the first
abbrev pub invariant-loop-other : goal.invariant-loop-other
invariant-loop-other l = record {
  count : l.at + first_same l.term (drop l.other-index l.terms) ≡ first_same l.term l.terms;
  within : l.at ≤ l.other-index;
}
