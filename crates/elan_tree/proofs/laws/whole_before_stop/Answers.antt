use Rattle.elan_tree.proofs.Core.{whole_run, whole_keeps}
use Rattle.elan_tree.proofs.laws.whole_before_stop.Goals as goal

pub returns-clause-whole : goal.returns-clause-whole
returns-clause-whole g c means at after limit root s run room = whole_run means at after limit root s run room

pub returns-clause-keeps : goal.returns-clause-keeps
returns-clause-keeps g c means at after limit s t step room = whole_keeps means at after limit s t step room
