use Rattle.elan_terms.proofs.OrderLaws as laws
use Rattle.elan_laws.proofs.laws.order_by_heads.Goals as goal

pub returns-clause-integers : goal.returns-clause-integers
returns-clause-integers c = λ x y. laws.order-ints x y

pub returns-clause-kinds : goal.returns-clause-kinds
returns-clause-kinds c = λ x f ts. laws.order-kinds x f ts

pub returns-clause-applications : goal.returns-clause-applications
returns-clause-applications c = λ f g ts us. laws.order-apps f g ts us
