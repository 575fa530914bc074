use Rattle.elan_variables.specs.Places.{under}
use Rattle.elan_variables.proofs.PlaceLemmas.{added_behind}
use Rattle.elan_variables.proofs.places.Places.add.Goals as goal

pub returns : goal.returns
returns c = λ word. added_behind c.args.name.now _ c.args.place (under c.args.self.now) (under c.take-places.new.self) (under c.put.new.self)
    _ _ c.in_ok-name.ensures.items c.take-places.ensures.value c.take-places.ensures.others c.in_ok-push.ensures.ok c.in_ok-put.ensures word
