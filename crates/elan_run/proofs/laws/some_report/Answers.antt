use Rattle.elan_run.specs.Verdict.{chosen_by}
use Rattle.elan_run.proofs.Reports.{some_report, told_report}
use Rattle.elan_run.proofs.laws.some_report.Goals as goal

pub returns-clause-library : goal.returns-clause-library
returns-clause-library c = λ words library tells input. some_report library tells (chosen_by words) input

pub returns-clause-told : goal.returns-clause-told
returns-clause-told c = λ words told all input. told_report (chosen_by words) told all input
