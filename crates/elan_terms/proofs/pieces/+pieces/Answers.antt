use Rattle.std.proofs.Common.{arith}
use Rattle.std.proofs.lemmas.Grind.{common_steps}
use Rattle.elan_terms.proofs.SublistLemmas.{pieces-app}
use Rattle.elan_terms.proofs.pieces.+pieces.Goals as goal

pub pieces_onto-returns-in_ok-pieces_at_onto-in-App : goal.pieces_onto-returns-in_ok-pieces_at_onto-in-App
pieces_onto-returns-in_ok-pieces_at_onto-in-App t c = grind (arith, common_steps, pieces-app c.args.shapes.now c.args.term.now c.in-App.op c.in-App.args c.in-App.is)
