use Rattle.elan_reader.proofs.AnswerLemmas.{read_as-answer, only_answer}
use Rattle.elan_reader.proofs.laws.a_text_is_read_as_its_answer.Goals as goal

pub returns-clause-answer : goal.returns-clause-answer
returns-clause-answer c = λ g vs what bytes tokens sound. read_as-answer g vs what bytes tokens sound

pub returns-clause-only : goal.returns-clause-only
returns-clause-only c = λ g vs what bytes tokens r sound a. only_answer g vs what bytes tokens r sound a
