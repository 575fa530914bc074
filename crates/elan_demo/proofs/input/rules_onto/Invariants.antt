use Rattle.std.proofs.Common.{◌≡◌, ◌≤◌, ◌++◌, ◌+◌, ◌-◌}
use Rattle.elan_demo.specs.Demo as spec
use Rattle.elan_demo.proofs.input.rules_onto.Given as goal

-- the rules so far and those that are left make the whole
abbrev pub invariant-rules : goal.invariant-rules
invariant-rules l =
    (l.text.items ++ spec.rules (l.n - l.left + 1) l.left ≡ l.fn.text.items ++ spec.rules 1 l.n) × (l.left ≤ l.n)

abbrev pub decreases-rules : goal.decreases-rules
decreases-rules l = l.left
