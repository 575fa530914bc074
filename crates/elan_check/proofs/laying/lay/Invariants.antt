use Rattle.std.proofs.Common.{◌≡◌, [], length, map}
use Rattle.elan_check.specs.Laid.{laid_all}
use Rattle.elan_check.specs.Lent.{seen_part}
use Rattle.elan_check.proofs.laying.lay.Given as goal

-- what is left decides behind the sections so far
abbrev pub invariant-instances : goal.invariant-instances
invariant-instances l =
    laid_all l.sorts.signature.now l.flat (map seen_part l.parts) l.left ≡ laid_all l.sorts.signature.now l.flat [] l.flat.instances

abbrev pub decreases-instances : goal.decreases-instances
decreases-instances l = length l.left
