use Rattle.std.proofs.Common.{◌≡◌, ◌++◌, length}
use Rattle.elan_terms.specs.Sublists.{once}
use Rattle.elan_terms.proofs.pieces.once_onto.Given as goal

-- what is there and each term left once are what there was and each term once
abbrev pub invariant-loop-left : goal.invariant-loop-left
invariant-loop-left l = l.out ++ once l.left ≡ l.initial.out ++ once l.terms

abbrev pub decreases-loop-left : goal.decreases-loop-left
decreases-loop-left l = length l.left
