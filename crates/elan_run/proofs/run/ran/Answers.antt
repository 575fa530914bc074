use Rattle.std.proofs.Common.{◌≡◌, ◌∙◌, None, Some, sym}
use Rattle.elan_cli.specs.Words.{texts}
use Rattle.elan_run.specs.Verdict.{chosen_by}
use Rattle.elan_run.proofs.Asking.{not_moved}
use Rattle.elan_run.proofs.Leaving.{chosen_untouched, usage_leaves}
use Rattle.elan_run.proofs.run.ran.Goals as goal

pub returns-in-Ok-Some-clause-untouched : goal.returns-in-Ok-Some-clause-untouched
returns-in-Ok-Some-clause-untouched g c =
    let is : chosen_by (texts c.args.words.now) ≡ Some c.in-Ok-Some.options =
    sym c.in-Ok-Some.ensures.value ∙ c.in-Ok-Some.field-0-is in
    chosen_untouched _ _ is _ c.ran_with.ensures.untouched

pub returns-in-Ok-None-clause-moved : goal.returns-in-Ok-None-clause-moved
returns-in-Ok-None-clause-moved g c = not_moved _

pub returns-in-Ok-None-clause-leaves : goal.returns-in-Ok-None-clause-leaves
returns-in-Ok-None-clause-leaves g c =
    let none : chosen_by (texts c.args.words.now) ≡ None =
    sym c.in-Ok-None.ensures.value ∙ c.in-Ok-None.field-0-is in
    usage_leaves _ _ _ _ _ (returns-in-Ok-None-clause-moved g c) _ none c.send.ensures.sends

pub returns-in-Err-clause-moved : goal.returns-in-Err-clause-moved
returns-in-Err-clause-moved g c = not_moved _
