use Rattle.elan_names.specs.Groups.{value_of}
use Rattle.elan_names.proofs.GroupLemmas.{updated}
use Rattle.elan_names.proofs.groups.Groups.put.Goals as goal

pub returns-in-Ok : goal.returns-in-Ok
returns-in-Ok c = λ key. updated value_of (value_of c.args.key) c.args.self.now.map c.insert.new.self _ c.in-Ok.ensures.updates key
