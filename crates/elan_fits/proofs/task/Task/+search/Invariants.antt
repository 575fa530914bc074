use Rattle.std.proofs.Common.{◌≡◌, ◌+◌, ◌*◌, ◌-◌, length, drop}
use Rattle.elan_fits.specs.Walks.{among}
use Rattle.elan_fits.proofs.task.Task.+search.Given as goal

abbrev pub decreases-search : goal.decreases-search
decreases-search l = 3 * length l.others.now

abbrev pub decreases-search_from : goal.decreases-search_from
decreases-search_from l = 3 * length l.rest.now + 2

abbrev pub decreases-search_at : goal.decreases-search_at
decreases-search_at l = 3 * length l.rest.now + 1

-- the places passed have brought nothing
abbrev pub invariant-search_from-loop-place : goal.invariant-search_from-loop-place
invariant-search_from-loop-place l = among l.self l.before (drop l.start l.self.parts) l.first l.rest ≡ among l.self l.before (drop l.place l.self.parts) l.first l.rest

abbrev pub decreases-search_from-loop-place : goal.decreases-search_from-loop-place
decreases-search_from-loop-place l = length l.self.parts - l.place
