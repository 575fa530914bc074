use denote.Param.Send.{param_send}
use Rattle.elan_workers.proofs.engine.fn.searched.map_vec.Goals as goal

pub work-requires-send-B : goal.work-requires-send-B
work-requires-send-B g c κs within = param_send 0 g.row.B c.requires.1.1.1.1.1.1.1.1.0

pub work-requires-send-B-Item : goal.work-requires-send-B-Item
work-requires-send-B-Item g c κs within = param_send 5 g.row.B-Item c.requires.1.1.1.1.1.1.1.1.3

pub work-requires-send-B-Then : goal.work-requires-send-B-Then
work-requires-send-B-Then g c κs within = param_send 6 g.row.B-Then c.requires.1.1.1.1.1.1.1.1.4
