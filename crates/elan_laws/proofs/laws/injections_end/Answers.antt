use Rattle.elan_laws.proofs.InjectionLaws as laws
use Rattle.elan_laws.proofs.laws.injections_end.Goals as goal

pub returns : goal.returns
returns c = λ g begin. laws.injections_exactly g begin
