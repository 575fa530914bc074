use Rattle.elan_laws.proofs.EqualityLaws as laws
use Rattle.elan_laws.proofs.laws.equality_modulo_ac.Goals as goal

pub returns-clause-exactly : goal.returns-clause-exactly
returns-clause-exactly c = λ shapes t u v w. laws.equal-exactly shapes t u v w

pub returns-clause-one_form : goal.returns-clause-one_form
returns-clause-one_form c = λ shapes t u h. laws.equal-canon shapes t u h

pub returns-clause-form : goal.returns-clause-form
returns-clause-form c = λ shapes t v. laws.canon-equal shapes t v
