use Rattle.elan_meaning.proofs.LawLemmas as laws
use Rattle.elan_meaning.proofs.RowLemmas as rows
use Rattle.elan_meaning.proofs.laws.rows_hold.Goals as goal

pub returns-clause-variable : goal.returns-clause-variable
returns-clause-variable c = λ p x sort a n. rows.row-variable p x sort a n

pub returns-clause-integer : goal.returns-clause-integer
returns-clause-integer c = λ p z a n. rows.row-integer p z a n

pub returns-clause-application : goal.returns-clause-application
returns-clause-application c = λ p op qs a n. rows.row-application p op qs a n

pub returns-clause-deep_node : goal.returns-clause-deep_node
returns-clause-deep_node c = λ p u n deep. rows.row-node-deep p u n deep

pub returns-clause-node : goal.returns-clause-node
returns-clause-node c = λ p u n flat. rows.row-node p u n flat

pub returns-clause-no_conditions : goal.returns-clause-no_conditions
returns-clause-no_conditions c = λ p a n. rows.row-no_conditions p a n

pub returns-clause-if_mark : goal.returns-clause-if_mark
returns-clause-if_mark c = λ p t cs a n c e. rows.row-if-mark p t cs a n c e

pub returns-clause-if_true : goal.returns-clause-if_true
returns-clause-if_true c = λ p t cs a n u m e holds. rows.row-if-true p t cs a n u m e holds

pub returns-clause-if_other : goal.returns-clause-if_other
returns-clause-if_other c = λ p t cs a n u m e other. rows.row-if-other p t cs a n u m e other

pub returns-clause-where_mark : goal.returns-clause-where_mark
returns-clause-where_mark c = λ p left s t cs a n c e. rows.row-where-mark p left s t cs a n c e

pub returns-clause-where_result : goal.returns-clause-where_result
returns-clause-where_result c = λ p left s t cs a n u m e. rows.row-where p left s t cs a n u m e

pub returns-clause-rule_out : goal.returns-clause-rule_out
returns-clause-rule_out c = λ p r t. rows.row-rule-out p r t

pub returns-clause-rule : goal.returns-clause-rule
returns-clause-rule c = λ p r t n. rows.row-rule p r t n

pub returns-clause-identity : goal.returns-clause-identity
returns-clause-identity c = λ p t n. rows.row-id p t n

pub returns-clause-failure : goal.returns-clause-failure
returns-clause-failure c = λ p t n. rows.row-fail p t n

pub returns-clause-empty_sequence : goal.returns-clause-empty_sequence
returns-clause-empty_sequence c = λ p t n. rows.row-sequence-none p t n

pub returns-clause-sequence : goal.returns-clause-sequence
returns-clause-sequence c = λ p s ss t n. rows.row-sequence p s ss t n

pub returns-clause-empty_label : goal.returns-clause-empty_label
returns-clause-empty_label c = λ p t n. rows.row-label-none p t n

pub returns-clause-label : goal.returns-clause-label
returns-clause-label c = λ p k ks r t n e. rows.row-label p k ks r t n e

pub returns-clause-call_out : goal.returns-clause-call_out
returns-clause-call_out c = λ p d actuals t. rows.row-call-out p d actuals t

pub returns-clause-call : goal.returns-clause-call
returns-clause-call c = λ p d actuals named t n e. rows.row-call p d actuals named t n e

pub returns-clause-parameter : goal.returns-clause-parameter
returns-clause-parameter c = λ p k t n. rows.row-param p k t n

pub returns-clause-all : goal.returns-clause-all
returns-clause-all c = λ p ss t n. rows.row-all p ss t n

pub returns-clause-first : goal.returns-clause-first
returns-clause-first c = λ p ss t n. rows.row-first p ss t n

pub returns-clause-first_one : goal.returns-clause-first_one
returns-clause-first_one c = λ p ss t n. rows.row-first-one p ss t n

pub returns-clause-repeat_out : goal.returns-clause-repeat_out
returns-clause-repeat_out c = λ p s t. rows.row-repeat-out p s t

pub returns-clause-repeat_end : goal.returns-clause-repeat_end
returns-clause-repeat_end c = λ p s t n e. rows.row-repeat-end p s t n e

pub returns-clause-repeat : goal.returns-clause-repeat
returns-clause-repeat c = λ p s t n i is e. rows.row-repeat p s t n i is e

pub returns-clause-iterate_out : goal.returns-clause-iterate_out
returns-clause-iterate_out c = λ p s t. rows.row-iterate-out p s t

pub returns-clause-iterate : goal.returns-clause-iterate
returns-clause-iterate c = λ p s t n. rows.row-iterate p s t n

pub returns-clause-iterate_plus_out : goal.returns-clause-iterate_plus_out
returns-clause-iterate_plus_out c = λ p s t. rows.row-iterate_plus-out p s t

pub returns-clause-iterate_plus : goal.returns-clause-iterate_plus
returns-clause-iterate_plus c = λ p s t n. rows.row-iterate_plus p s t n

pub returns-clause-normalise : goal.returns-clause-normalise
returns-clause-normalise c = λ p s t sort n. rows.row-normalise p s t sort n

pub returns-clause-congruence_integer : goal.returns-clause-congruence_integer
returns-clause-congruence_integer c = λ p op ss z n. rows.row-congruence-integer p op ss z n

pub returns-clause-congruence_other : goal.returns-clause-congruence_other
returns-clause-congruence_other c = λ p op ss headed us n other. rows.row-congruence-other p op ss headed us n other

pub returns-clause-congruence : goal.returns-clause-congruence
returns-clause-congruence c = λ p op ss us n. rows.row-congruence p op ss us n

pub returns-clause-positions_integer : goal.returns-clause-positions_integer
returns-clause-positions_integer c = λ p sort s z n. rows.row-places-integer p sort s z n

pub returns-clause-positions : goal.returns-clause-positions
returns-clause-positions c = λ p sort s op us n. rows.row-places p sort s op us n

pub returns-clause-deep_place : goal.returns-clause-deep_place
returns-clause-deep_place c = λ p sort s u n deep. rows.row-place-deep p sort s u n deep

pub returns-clause-other_place : goal.returns-clause-other_place
returns-clause-other_place c = λ p sort s u n flat other. rows.row-place-elsewhere p sort s u n flat other

pub returns-clause-place_out : goal.returns-clause-place_out
returns-clause-place_out c = λ p sort s u flat same. rows.row-place-out p sort s u flat same

pub returns-clause-place_end : goal.returns-clause-place_end
returns-clause-place_end c = λ p sort s u n flat same e. rows.row-place-end p sort s u n flat same e

pub returns-clause-place : goal.returns-clause-place
returns-clause-place c = λ p sort s u n i is flat same e. rows.row-place p sort s u n i is flat same e

pub returns-clause-answers : goal.returns-clause-answers
returns-clause-answers c = λ p start query n. rows.row-answers p start query n

pub returns-clause-lesser_strategy : goal.returns-clause-lesser_strategy
returns-clause-lesser_strategy c = λ p s t n. rows.lowered-same n _ (laws.strategy_left p n s t)

pub returns-clause-lesser_node : goal.returns-clause-lesser_node
returns-clause-lesser_node c = λ p u n. rows.lowered-same n _ (laws.node_left p n u)

pub returns-clause-lesser_rule : goal.returns-clause-lesser_rule
returns-clause-lesser_rule c = λ p r t n. rows.lowered-same n _ (laws.rule_left p n r t)

pub returns-clause-lesser_conditions : goal.returns-clause-lesser_conditions
returns-clause-lesser_conditions c = λ p cs a n. rows.lowered_rows-same n _ (laws.clauses_left p n cs a)

pub returns-clause-lesser_positions : goal.returns-clause-lesser_positions
returns-clause-lesser_positions c = λ p sort s t n. rows.lowered-same n _ (laws.positions_left p n sort s t)

pub returns-clause-lesser_normal : goal.returns-clause-lesser_normal
returns-clause-lesser_normal c = λ p q a n. rows.lowered-same n _ (laws.normal_left p n q a)
