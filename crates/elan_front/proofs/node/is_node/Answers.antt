use Rattle.elan_front.proofs.Nodes.{same_node}
use Rattle.elan_front.proofs.node.is_node.Goals as goal

pub returns-then-own-op : goal.returns-then-own-op
returns-then-own-op g c = λ same. same_node _ _ _ _ _ (c.in-App.ensures {u = tt}) c.if-own-op.true (c.are_same.ensures same)
