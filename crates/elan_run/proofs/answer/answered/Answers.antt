use Rattle.std.proofs.Common.{Ok}
use Rattle.elan_run.proofs.Asking.{not_moved, token_reported, refused_tokens}
use Rattle.elan_run.specs.declared.answer.Unanswered.{Unanswered}
use Rattle.elan_run.proofs.answer.answered.Goals as goal

pub returns-in_err-refused-in-Err-Refused-clause-moved :
    goal.returns-in_err-refused-in-Err-Refused-clause-moved
returns-in_err-refused-in-Err-Refused-clause-moved g c = not_moved _

pub returns-in_ok-refused-in-Err-Refused-clause-moved :
    goal.returns-in_ok-refused-in-Err-Refused-clause-moved
returns-in_ok-refused-in-Err-Refused-clause-moved g c = not_moved _

pub returns-in-Err-NoMemory-clause-moved : goal.returns-in-Err-NoMemory-clause-moved
returns-in-Err-NoMemory-clause-moved g c = not_moved _

pub returns-in_ok-refused-in-Err-Refused-clause-report :
    goal.returns-in_ok-refused-in-Err-Refused-clause-report
returns-in_ok-refused-in-Err-Refused-clause-report g c =
    token_reported {E = Unanswered} _ _ _ _ _ (Ok c.in_ok-refused-in-Err-Refused.field-0) c.requires.within
    (refused_tokens _ _ _ c.in-Err-Refused.ensures.refused c.in-Err-Refused.field-0-is)
    c.in_ok-refused-in-Err-Refused.ensures
