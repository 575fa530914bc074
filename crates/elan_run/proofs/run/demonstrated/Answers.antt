use Rattle.elan_run.proofs.Leaving.{generated_leaves, untouched_generated}
use Rattle.elan_run.proofs.run.demonstrated.Goals as goal

pub returns-clause-leaves : goal.returns-clause-leaves
returns-clause-leaves g c reading =
    generated_leaves _ _ _ _ _ c.generated.ensures.moved _ c.generated.result _ c.requires.generated
    c.generated.ensures.report c.generated.ensures.why c.finish.ensures.finishes

pub returns-clause-untouched : goal.returns-clause-untouched
returns-clause-untouched g c bytes none = untouched_generated _ _ bytes c.requires.generated c.generated.ensures.untouched none
