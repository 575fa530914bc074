use Rattle.std.proofs.Common.{◌≡◌, length}
use Rattle.std.specs.Prelude.{nat_lt}
use Rattle.elan_check.specs.Laid.{tokens_of}
use Rattle.elan_check.proofs.small.are_names_below.Given as goal

-- the names that are left are few for the room that is left as all are for the whole room
abbrev pub invariant-declarations : goal.invariant-declarations
invariant-declarations l = nat_lt (length (tokens_of l.left)) l.room ≡ nat_lt (length (tokens_of l.vars)) l.most

abbrev pub decreases-declarations : goal.decreases-declarations
decreases-declarations l = length l.left
