use Rattle.elan_kinds.proofs.Levels as levels
use Rattle.elan_kinds.proofs.laws.results_keep_their_kind.Goals as goal

pub returns-clause-strategy : goal.returns-clause-strategy
returns-clause-strategy c = λ p s by t n v f k. (levels.level_keeps p v n).strategy s by t n f k

pub returns-clause-rule : goal.returns-clause-rule
returns-clause-rule c = λ p r s t n v e k. levels.rule_keeps p v r s t n e k

pub returns-clause-tried : goal.returns-clause-tried
returns-clause-tried c = λ p r s t n v i k. levels.tried_keeps p v r s t n i k

pub returns-clause-clauses : goal.returns-clause-clauses
returns-clause-clauses c = λ p cs bound later a n v e g. (levels.level_keeps p v n).clauses cs bound later a n e g

pub returns-clause-positions : goal.returns-clause-positions
returns-clause-positions c = λ p place s by t n v f k. (levels.level_keeps p v n).positions place s by t n f k

pub returns-clause-normal : goal.returns-clause-normal
returns-clause-normal c = λ p q bound a s n v w g. (levels.level_keeps p v n).normal q bound a s n w g

pub returns-clause-node : goal.returns-clause-node
returns-clause-node c = λ p s u n v w k. levels.node_keeps p v s u n w k

pub returns-clause-answers : goal.returns-clause-answers
returns-clause-answers c = λ p s by q n v f w. levels.answers_keep p v s by q n f w
