use Rattle.std.proofs.Common.{◌≡◌, length, map}
use Rattle.elan_check.specs.Walk.{ARule, checked_tasks}
use Rattle.elan_check.proofs.steps.rules_onto.Given as goal

-- the rules that are left decide behind what was checked
abbrev pub invariant-rules : goal.invariant-rules
invariant-rules g l =
    checked_tasks (g.R.Read.reads l.around.reader.now) l.around.signature.now l.around.names.now l.done (map (ARule l.around.text.now l.sort l.around.variables.now) l.left)
    ≡ checked_tasks (g.R.Read.reads l.around.reader.now) l.around.signature.now l.around.names.now l.fn.done (map (ARule l.around.text.now l.sort l.around.variables.now) l.fn.rules)

abbrev pub decreases-rules : goal.decreases-rules
decreases-rules g l = length l.left
