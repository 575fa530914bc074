use Rattle.elan_names.specs.Groups.{value_of, under}
use Rattle.elan_names.proofs.GroupLemmas.{added_behind}
use Rattle.elan_names.proofs.groups.Groups.add.Goals as goal

pub returns : goal.returns
returns c = λ asked. added_behind (value_of c.args.key) c.args.number (under c.args.self.now) (under c.take-numbers.new.self) (under c.put.new.self)
    _ _ c.take-numbers.ensures.value c.take-numbers.ensures.others c.in_ok-push.ensures.ok c.in_ok-put.ensures asked
