use Rattle.std.proofs.Common.{◌≡◌, ◌++◌, drop}
use Rattle.elan_meaning.specs.Items as items_spec
use Rattle.elan_plain.proofs.lists.before.Given as goal

-- the rows so far and those that are left make all
abbrev pub invariant-loop-row : goal.invariant-loop-row
invariant-loop-row l = l.out ++ items_spec.before l.term (drop l.row-index l.row-items) ≡ items_spec.before l.term l.row-items
