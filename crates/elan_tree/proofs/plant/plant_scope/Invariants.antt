use Rattle.std.proofs.Common.{◌≡◌, ◌++◌, List, length}
use Rattle.elan_tree.specs.Shape.{arms_of}
use Rattle.elan_tree.specs.Planting.{ArmsPosted}
use Rattle.elan_tree.specs.Marks.{IsFresh}
use Rattle.elan_tree.proofs.plant.plant_scope.Given as goal

-- the alternatives that were posted, followed by those that are left, are all alternatives
abbrev pub invariant-rest : goal.invariant-rest
invariant-rest g l = (done : List _) × (done ++ l.alts.items ≡ l.fn.alts.items) × ArmsPosted IsFresh done (arms_of l.arms.items)

abbrev pub decreases-rest : goal.decreases-rest
decreases-rest g l = length l.alts.items
