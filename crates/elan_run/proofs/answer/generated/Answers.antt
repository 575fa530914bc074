use Rattle.elan_run.proofs.Asking.{not_moved}
use Rattle.elan_run.proofs.answer.generated.Goals as goal

pub returns-in-Err-clause-moved : goal.returns-in-Err-clause-moved
returns-in-Err-clause-moved g c = not_moved _
