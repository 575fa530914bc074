use Rattle.std.proofs.Common.{Err, ap, refl}
use Rattle.elan_run.proofs.Asking.{not_moved}
use Rattle.elan_run.proofs.Leaving.{drained_told, past_told, if_made, read_leaves, too_long_reported, too_long_why, too_long_undone, untouched_read}
use Rattle.elan_run.proofs.run.streamed.Goals as goal

pub returns-in-Ok-clause-leaves : goal.returns-in-Ok-clause-leaves
returns-in-Ok-clause-leaves g c =
    read_leaves _ _ _ _ _ c.answered.ensures.moved _ c.answered.result _ c.requires.read (drained_told _ _ _ c.in-Ok.ensures.found)
    (rw (← c.as_slice.ensures.value) c.answered.ensures.report) (rw (← c.as_slice.ensures.value) c.answered.ensures.why)
    (if_made c.answered.result c.in-Ok.ensures.found.at_end) c.finish.ensures.finishes

pub returns-in-Ok-clause-untouched : goal.returns-in-Ok-clause-untouched
returns-in-Ok-clause-untouched g c bytes is none =
    untouched_read _ _ _ _ bytes _ c.requires.read c.in-Ok.ensures.found c.as_slice.ensures.value c.answered.ensures.untouched is none

pub returns-in-Err-TooLong-clause-moved : goal.returns-in-Err-TooLong-clause-moved
returns-in-Err-TooLong-clause-moved g c = not_moved _

pub returns-in-Err-TooLong-clause-leaves : goal.returns-in-Err-TooLong-clause-leaves
returns-in-Err-TooLong-clause-leaves g c =
    let left = past_told _ _ _ (c.in-Err-TooLong.ensures.long (ap Err c.in-Err-TooLong.field-0-is)) in
    read_leaves _ _ _ _ _ (returns-in-Err-TooLong-clause-moved g c) _ c.too_long.result _ c.requires.read left.1
    (too_long_reported _ _ left.0 c.too_long.result left.2 c.too_long.ensures.ok)
    (too_long_why left.0 _ _ (returns-in-Err-TooLong-clause-moved g c) c.too_long.result c.too_long.ensures.err)
    (too_long_undone _ c.too_long.result c.too_long.ensures.ok) c.finish-in-Err-TooLong.ensures.finishes

pub returns-in-Err-ReadFault-clause-moved : goal.returns-in-Err-ReadFault-clause-moved
returns-in-Err-ReadFault-clause-moved g c = not_moved _

pub returns-in-Err-NoMemory-clause-moved : goal.returns-in-Err-NoMemory-clause-moved
returns-in-Err-NoMemory-clause-moved g c = not_moved _
