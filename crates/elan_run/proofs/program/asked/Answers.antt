use Rattle.elan_run.proofs.Telling.{tells_on, tells_off}
use Rattle.elan_run.proofs.program.asked.Goals as goal

pub returns-in-Ok-clause-tells : goal.returns-in-Ok-clause-tells
returns-in-Ok-clause-tells g c =
    tells_on _ _ _ _ _ c.flatten.result c.flatten.ensures.sound c.flatten.ensures.alone c.flatten.ensures.answered c.in-Ok.flat c.prepared_or.result
    c.in-Ok.is c.prepared_or.ensures

pub returns-in-Err-clause-tells : goal.returns-in-Err-clause-tells
returns-in-Err-clause-tells g c =
    tells_off _ _ _ _ _ c.flatten.result c.flatten.ensures.sound c.flatten.ensures.alone c.flatten.ensures.answered c.in-Err.why
    c.in-Err.is c.flatten.ensures.fault c.flatten.ensures.needed
