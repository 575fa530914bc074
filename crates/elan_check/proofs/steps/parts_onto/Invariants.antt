use Rattle.std.proofs.Common.{◌≡◌, length, map}
use Rattle.std.specs.List.{flat_map}
use Rattle.elan_check.specs.Fits.{AllFit}
use Rattle.elan_check.specs.Lent.{seen_part}
use Rattle.elan_check.specs.Walk.{tasks_in, checked_tasks}
use Rattle.elan_check.proofs.steps.parts_onto.Given as goal

-- the sections that are left decide behind what was checked
abbrev pub invariant-parts : goal.invariant-parts
invariant-parts g l =
    (checked_tasks (g.R.Read.reads l.checker.reader.now) l.checker.signature.now l.checker.names.now l.done (flat_map tasks_in (map seen_part l.left))
    ≡ checked_tasks (g.R.Read.reads l.checker.reader.now) l.checker.signature.now l.checker.names.now l.fn.done (flat_map tasks_in (map seen_part l.fn.parts)))
    × AllFit (g.R.Read.reads l.checker.reader.now) l.checker.signature.now (map seen_part l.left)

abbrev pub decreases-parts : goal.decreases-parts
decreases-parts g l = length l.left
