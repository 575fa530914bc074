use Rattle.std.proofs.Common.{Ok}
use Rattle.elan_run.proofs.Asking.{not_moved, reported, told_why, outline_reported, refused_outline}
use Rattle.elan_run.specs.declared.answer.Unanswered.{Unanswered}
use Rattle.elan_run.proofs.answer.answered_of.Goals as goal

pub returns-in-Ok-clause-report : goal.returns-in-Ok-clause-report
returns-in-Ok-clause-report g c =
    reported _ _ _ _ c.requires.within c.requires.fits c.in-Ok.ensures.found _ _ c.asked.result c.told.result
    c.asked.ensures.tells c.told.ensures

pub returns-in-Ok-clause-why : goal.returns-in-Ok-clause-why
returns-in-Ok-clause-why g c =
    told_why _ _ _ _ c.requires.within c.requires.fits c.in-Ok.ensures.found _ _ c.asked.result c.told.result
    c.asked.ensures.tells c.told.ensures

pub returns-in_err-unread-in-Err-Refused-clause-moved :
    goal.returns-in_err-unread-in-Err-Refused-clause-moved
returns-in_err-unread-in-Err-Refused-clause-moved g c = not_moved _

pub returns-in_ok-unread-in-Err-Refused-clause-moved :
    goal.returns-in_ok-unread-in-Err-Refused-clause-moved
returns-in_ok-unread-in-Err-Refused-clause-moved g c = not_moved _

pub returns-in-Err-NoMemory-clause-moved : goal.returns-in-Err-NoMemory-clause-moved
returns-in-Err-NoMemory-clause-moved g c = not_moved _

pub returns-in_ok-unread-in-Err-Refused-clause-report :
    goal.returns-in_ok-unread-in-Err-Refused-clause-report
returns-in_ok-unread-in-Err-Refused-clause-report g c =
    outline_reported {E = Unanswered} _ _ _ _ _ (Ok c.in_ok-unread-in-Err-Refused.field-0) c.requires.within (
      c.args.found.now,
      c.requires.fits,
      refused_outline _ _ _ _ c.in-Err-Refused.ensures.refused c.in-Err-Refused.field-0-is,
    )
    c.in_ok-unread-in-Err-Refused.ensures
