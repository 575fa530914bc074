use Rattle.std.proofs.Common.{◌≡◌, take}
use Rattle.elan_look.specs.Plans.{all_there}
use Rattle.elan_look.proofs.plan.there.Given as goal

abbrev pub invariant-loop-row : goal.invariant-loop-row
invariant-loop-row g l = l.known ≡ all_there (take l.row-index l.rows)
