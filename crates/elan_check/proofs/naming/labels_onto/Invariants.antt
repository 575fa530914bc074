use Rattle.std.proofs.Common.{◌≡◌, ◌++◌, length, map}
use Rattle.elan_check.specs.Laid.{label_of}
use Rattle.elan_check.proofs.naming.labels_onto.Given as goal

-- the labels so far and those that are left are all labels
abbrev pub invariant-rules : goal.invariant-rules
invariant-rules l = l.out ++ map (label_of l.text l.sort) l.left ≡ l.fn.out ++ map (label_of l.text l.sort) l.fn.rules

abbrev pub decreases-rules : goal.decreases-rules
decreases-rules l = length l.left
