use Rattle.std.proofs.Common.{◌≡◌, drop}
use Rattle.elan_names.specs.Names.{first}
use Rattle.elan_names.specs.Resolved.{seen, is_parameter}
use Rattle.elan_names.proofs.resolving.parameter_of.Given as goal

-- the number is that of the next parameter; the parameter is not among those before it
abbrev pub invariant-parameters : goal.invariant-parameters
invariant-parameters l = (l.number ≡ l.token-index)
    × (first (is_parameter (seen l.site) l.word) l.number (drop l.token-index l.body.parameters.now)
    ≡ first (is_parameter (seen l.site) l.word) 0 l.body.parameters.now)
