use Rattle.std.proofs.Common.{◌≡◌, ◌++◌, ◌∷◌, length, map}
use Rattle.elan_modules.proofs.modules.add_variables.Given as goal

-- what was found so far and what is left make the whole
abbrev pub invariant-vars : goal.invariant-vars
invariant-vars l =
    l.found ++ map (λ v. v.sort) l.left ≡ l.fn.found ++ l.fn.sort ∷ map (λ v. v.sort) l.vars

abbrev pub decreases-vars : goal.decreases-vars
decreases-vars l = length l.left
