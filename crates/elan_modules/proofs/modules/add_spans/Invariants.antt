use Rattle.std.proofs.Common.{◌≡◌, ◌++◌, length}
use Rattle.elan_modules.proofs.modules.add_spans.Given as goal

-- what was found so far and what is left make the whole
abbrev pub invariant-spans : goal.invariant-spans
invariant-spans l =
    l.found ++ l.left ≡ l.fn.found ++ l.spans

abbrev pub decreases-spans : goal.decreases-spans
decreases-spans l = length l.left
