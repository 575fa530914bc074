use Rattle.std.proofs.Common.{◌≡◌, true, length, map}
use Rattle.std.specs.List.{list_all}
use Rattle.elan_clauses.specs.Offered.{has_few}
use Rattle.elan_check.specs.Walk.{ADefinition, checked_tasks}
use Rattle.elan_check.proofs.steps.definitions_onto.Given as goal

-- the definitions that are left decide behind what was checked
abbrev pub invariant-definitions : goal.invariant-definitions
invariant-definitions g l =
    (checked_tasks (g.R.Read.reads l.around.reader.now) l.around.signature.now l.around.names.now l.done (map (ADefinition l.around.text.now l.sort) l.left)
    ≡ checked_tasks (g.R.Read.reads l.around.reader.now) l.around.signature.now l.around.names.now l.fn.done (map (ADefinition l.around.text.now l.sort) l.fn.definitions))
    × (list_all has_few l.left ≡ true)

abbrev pub decreases-definitions : goal.decreases-definitions
decreases-definitions g l = length l.left
