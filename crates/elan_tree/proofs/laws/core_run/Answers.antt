use Rattle.elan_tree.proofs.Core.{core_run_within, core_run_first, core_run_over, core_run_keeps}
use Rattle.elan_tree.proofs.laws.core_run.Goals as goal

pub returns-clause-within : goal.returns-clause-within
returns-clause-within g c means at after limit root s run = core_run_within means at after limit root s run

pub returns-clause-first : goal.returns-clause-first
returns-clause-first g c means at after limit root s run = core_run_first means at after limit root s run

pub returns-clause-over : goal.returns-clause-over
returns-clause-over g c means at after limit root s run empty = core_run_over means at after limit root s run empty

pub returns-clause-keeps : goal.returns-clause-keeps
returns-clause-keeps g c means at after limit s t step within = core_run_keeps means at after limit s t step within
