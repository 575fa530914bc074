use Rattle.elan_names.specs.Groups.{value_of}
use Rattle.elan_names.proofs.GroupLemmas.{updated}
use Rattle.elan_names.proofs.groups.Groups.take.Goals as goal

pub returns-in-Some-clause-others : goal.returns-in-Some-clause-others
returns-in-Some-clause-others c = λ key. updated value_of (value_of c.args.key.now) c.args.self.now.map c.swap_remove.new.self _ c.swap_remove.ensures.updates key

pub returns-in-None-clause-others : goal.returns-in-None-clause-others
returns-in-None-clause-others c = λ key. updated value_of (value_of c.args.key.now) c.args.self.now.map c.swap_remove.new.self _ c.swap_remove.ensures.updates key
