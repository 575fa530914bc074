use Rattle.elan_run.specs.Verdict.{chosen_by}
use Rattle.elan_run.proofs.Verdicts.{one_report}
use Rattle.elan_run.proofs.laws.one_report.Goals as goal

pub returns : goal.returns
returns c = λ words. one_report (chosen_by words)
