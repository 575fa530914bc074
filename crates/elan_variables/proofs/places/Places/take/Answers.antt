use Rattle.elan_variables.proofs.PlaceLemmas.{updated}
use Rattle.elan_variables.proofs.places.Places.take.Goals as goal

pub returns-in-Some-clause-others : goal.returns-in-Some-clause-others
returns-in-Some-clause-others c = λ word. updated (λ k. k.items) c.args.name.now c.args.self.now.map c.swap_remove.new.self _ c.swap_remove.ensures.updates word

pub returns-in-None-clause-others : goal.returns-in-None-clause-others
returns-in-None-clause-others c = λ word. updated (λ k. k.items) c.args.name.now c.args.self.now.map c.swap_remove.new.self _ c.swap_remove.ensures.updates word
