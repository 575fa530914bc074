use Rattle.std.proofs.Common.{drop}
use Rattle.elan_table.specs.Rows.{terms}
use Rattle.elan_bags.proofs.AboveLemmas.{Goes, found, joined}
use Rattle.elan_bags.proofs.choice.above.Given as goal

-- the best choice so far, and the walk along what is left of the bounds
abbrev pub invariant-bounds : goal.invariant-bounds
invariant-bounds g l = Goes (terms l.fn.rows) (terms l.past) l.many (terms l.left) l.kept (drop l.kept (terms l.past)) (found l.is_found (joined (terms l.past) l.stay l.many (terms l.others)))
