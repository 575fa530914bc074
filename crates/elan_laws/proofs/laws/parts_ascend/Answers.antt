use Rattle.elan_laws.proofs.PartLaws as laws
use Rattle.elan_laws.proofs.TimesLaws as times
use Rattle.elan_laws.proofs.laws.parts_ascend.Goals as goal

pub returns-clause-order : goal.returns-clause-order
returns-clause-order c = λ shapes t. laws.parts-ascend shapes t

pub returns-clause-parts : goal.returns-clause-parts
returns-clause-parts c = λ shapes t p v. laws.parts-exact shapes t p v

pub returns-clause-multisets : goal.returns-clause-multisets
returns-clause-multisets c = λ us ts up. times.some-exactly us ts up
