use Rattle.elan_variables.proofs.PlaceLemmas.{updated}
use Rattle.elan_variables.proofs.places.Places.put.Goals as goal

pub returns-in-Ok : goal.returns-in-Ok
returns-in-Ok c = λ word. updated (λ k. k.items) c.args.name.items c.args.self.now.map c.insert.new.self _ c.in-Ok.ensures.updates word
