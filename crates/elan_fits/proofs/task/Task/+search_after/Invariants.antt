use Rattle.std.proofs.Common.{◌+◌, ◌*◌, length}
use Rattle.elan_fits.proofs.task.Task.+search_after.Given as goal

abbrev pub decreases-search_after : goal.decreases-search_after
decreases-search_after l = 2 * length l.others.now

abbrev pub decreases-search_past : goal.decreases-search_past
decreases-search_past l = 2 * length l.rest.now + 1
