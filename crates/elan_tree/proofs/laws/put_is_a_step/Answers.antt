use Rattle.elan_tree.specs.Moves.{move}
use Rattle.elan_tree.specs.Normal.{AnyResume}
use Rattle.elan_tree.proofs.Landing.{put_move}
use Rattle.elan_tree.proofs.laws.put_is_a_step.Goals as goal

pub returns : goal.returns
returns g c test limit released t u p first = move (put_move test u p AnyResume t first)
