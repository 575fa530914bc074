use Rattle.std.proofs.Common.{◌≡◌, ◌++◌, length}
use Rattle.elan_terms.specs.Match.{matches}
use Rattle.elan_fits.proofs.walk.matches.Given as goal

-- the matches so far, and those that the walk has still to give, are all
abbrev pub invariant-loop-all : goal.invariant-loop-all
invariant-loop-all l = l.all ++ l.walk ≡ matches l.shapes l.pattern l.term

abbrev pub decreases-loop-all : goal.decreases-loop-all
decreases-loop-all l = length l.walk
