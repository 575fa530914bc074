use Rattle.elan_terms.proofs.OrderLaws as laws
use Rattle.elan_laws.proofs.laws.order_is_total.Goals as goal

pub returns-clause-equal : goal.returns-clause-equal
returns-clause-equal c = λ t u. laws.equal_exactly t u

pub returns-clause-reversed : goal.returns-clause-reversed
returns-clause-reversed c = λ t u. laws.reversed t u

pub returns-clause-transitive : goal.returns-clause-transitive
returns-clause-transitive c = λ t u v. laws.transitive t u v
