use Rattle.elan_meaning.proofs.LawLemmas as laws
use Rattle.elan_meaning.proofs.laws.steps_left.Goals as goal

pub returns-clause-strategy : goal.returns-clause-strategy
returns-clause-strategy c = λ p s t n. laws.strategy_left p n s t

pub returns-clause-rule : goal.returns-clause-rule
returns-clause-rule c = λ p r t n. laws.rule_left p n r t

pub returns-clause-clauses : goal.returns-clause-clauses
returns-clause-clauses c = λ p cs a n. laws.clauses_left p n cs a

pub returns-clause-positions : goal.returns-clause-positions
returns-clause-positions c = λ p sort s t n. laws.positions_left p n sort s t

pub returns-clause-normal : goal.returns-clause-normal
returns-clause-normal c = λ p q a n. laws.normal_left p n q a

pub returns-clause-node : goal.returns-clause-node
returns-clause-node c = λ p u n. laws.node_left p n u

pub returns-clause-answers : goal.returns-clause-answers
returns-clause-answers c = λ p s q n. laws.answers_left p n s q
