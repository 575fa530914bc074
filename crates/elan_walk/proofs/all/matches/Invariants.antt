use Rattle.std.proofs.Common.{◌≡◌, ◌++◌, map, length}
use Rattle.elan_terms.specs.Match.{matches}
use Rattle.elan_table.specs.Rows.{terms}
use Rattle.elan_walk.proofs.all.matches.Given as goal

-- those in the list, and those to come behind them, are the matches
abbrev pub invariant-matches : goal.invariant-matches
invariant-matches g l = map terms l.all ++ l.walk ≡ matches g.N.Name.shapes l.pattern l.fn.term.value

-- one fewer is to come
abbrev pub decreases-matches : goal.decreases-matches
decreases-matches g l = length l.walk
