use Rattle.elan_meaning.proofs.LawLemmas as laws
use Rattle.elan_meaning.proofs.laws.more_steps.Goals as goal

pub returns-clause-strategy : goal.returns-clause-strategy
returns-clause-strategy c = λ p s t n k. laws.strategy_more p n k s t

pub returns-clause-rule : goal.returns-clause-rule
returns-clause-rule c = λ p r t n k. laws.rule_more p n k r t

pub returns-clause-clauses : goal.returns-clause-clauses
returns-clause-clauses c = λ p cs a n k. laws.clauses_more p n k cs a

pub returns-clause-positions : goal.returns-clause-positions
returns-clause-positions c = λ p sort s t n k. laws.positions_more p n k sort s t

pub returns-clause-normal : goal.returns-clause-normal
returns-clause-normal c = λ p q a n k. laws.normal_more p n k q a

pub returns-clause-node : goal.returns-clause-node
returns-clause-node c = λ p u n k. laws.node_more p n k u

pub returns-clause-answers : goal.returns-clause-answers
returns-clause-answers c = λ p s q n k. laws.answers_more p n k s q
