use Rattle.std.proofs.Common.{◌≡◌, ◌++◌, List, length}
use Rattle.elan_tree.specs.Tree.{trees}
use Rattle.elan_tree.specs.Planting.{AllPosted}
use Rattle.elan_tree.specs.Marks.{IsFresh}
use Rattle.elan_tree.proofs.plant.plant_many.Given as goal

-- the branches that were posted, followed by those that are left, are all branches
abbrev pub invariant-rest : goal.invariant-rest
invariant-rest g l = (done : List _) × (done ++ l.branches.items ≡ l.fn.branches.items) × AllPosted IsFresh done (trees l.kids.items)

abbrev pub decreases-rest : goal.decreases-rest
decreases-rest g l = length l.branches.items
