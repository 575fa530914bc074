use Rattle.std.proofs.Common.{◌≡◌, refl, ◌∙◌}
use Rattle.elan_fits.proofs.StageLemmas.{never-look}
use Rattle.elan_fits.proofs.walk.has_none_from.Goals as goal

pub returns-in-Never : goal.returns-in-Never
returns-in-Never c = λ _. never-look _ _ _ _ c.args.variables.now _ c.args.first c.in_ok-look.ensures c.in-Never.is c.requires.named c.requires.begin refl (c.as_slice.ensures ∙ c.new-none.ensures) refl c.requires.valid c.requires.canonical
