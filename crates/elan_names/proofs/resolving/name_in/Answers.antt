use Rattle.std.proofs.Common.{◌∙◌, ap, sym}
use Rattle.elan_names.specs.Names.{named}
use Rattle.elan_names.specs.Resolved.{parameter_or}
use Rattle.elan_names.proofs.resolving.name_in.Goals as goal

pub returns-in-Some : goal.returns-in-Some
returns-in-Some c =
    c.parameter.ensures (named c.args.site.now.known.names.now c.args.sort c.args.word.now)
    ∙ ap (λ p. parameter_or c.args.body.now.sort c.args.sort p (named c.args.site.now.known.names.now c.args.sort c.args.word.now))
    (sym c.in-Some.is ∙ c.parameter_of.ensures)
