use Rattle.elan_run.proofs.run.ran_with.Goals as goal

pub returns-in-Some-clause-leaves : goal.returns-in-Some-clause-leaves
returns-in-Some-clause-leaves g c = c.demonstrated.ensures.leaves _
