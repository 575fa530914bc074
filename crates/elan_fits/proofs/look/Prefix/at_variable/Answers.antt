use Rattle.std.proofs.Common.{sym, ap, ◌∙◌, is_eq}
use Rattle.std.specs.Option.{option_copied}
use Rattle.elan_fits.proofs.LookLemmas.{var-known}
use Rattle.elan_fits.proofs.look.Prefix.at_variable.Goals as goal

pub returns-else-is_eq : goal.returns-else-is_eq
returns-else-is_eq c =
    var-known c.args.self.now _ c.in-Some.value.now c.args.term.now (sym c.known.ensures ∙ ap option_copied c.in-Some.is)
    (ap is_eq (sym c.compare.ensures) ∙ sym c.is_eq.ensures ∙ c.if-is_eq.false)
