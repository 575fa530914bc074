use Rattle.elan_chart.proofs.LawLemmas.{some_answer, one_only, not_none, not_several, none_several}
use Rattle.elan_chart.proofs.laws.each_text_has_one_answer.Goals as goal

pub returns-clause-some : goal.returns-clause-some
returns-clause-some c = λ g vs run what sound. some_answer g vs run what sound

pub returns-clause-one : goal.returns-clause-one
returns-clause-one c = λ g vs run what t u p q. one_only g vs run what t u p q

pub returns-clause-not_none : goal.returns-clause-not_none
returns-clause-not_none c = λ g vs run what t p q. not_none g vs run what t p q

pub returns-clause-not_several : goal.returns-clause-not_several
returns-clause-not_several c = λ g vs run what t p q. not_several g vs run what t p q

pub returns-clause-apart : goal.returns-clause-apart
returns-clause-apart c = λ g vs run what p q. none_several g vs run what p q
