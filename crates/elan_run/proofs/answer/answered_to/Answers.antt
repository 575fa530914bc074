use Rattle.elan_run.proofs.Asking.{not_moved}
use Rattle.elan_run.proofs.Leaving.{too_long_reported}
use Rattle.elan_run.proofs.answer.answered_to.Goals as goal

pub returns-then-bytes-gt-MOST_BYTES-clause-moved : goal.returns-then-bytes-gt-MOST_BYTES-clause-moved
returns-then-bytes-gt-MOST_BYTES-clause-moved g c = not_moved _

pub returns-then-bytes-gt-MOST_BYTES-clause-report : goal.returns-then-bytes-gt-MOST_BYTES-clause-report
returns-then-bytes-gt-MOST_BYTES-clause-report g c =
    too_long_reported _ _ _ c.too_long.result c.if-bytes-gt-MOST_BYTES.true c.too_long.ensures.ok
