-- Two bounds together, and one of two.
use Rattle.std.specs.Prelude.{Bool, true, false, if◌then◌else◌}
use Rattle.std.specs.Ordering.{is_lt}
use Rattle.elan_terms.specs.Term.{order}
use Rattle.elan_look.specs.declared.low.Low.{Low}
use Rattle.elan_look.specs.declared.low.Low.TheVariants.{Empty, Any, At}

module _ {N : Type 0} where
  -- whether it says that there is nothing
  abbrev pub is_empty : Low N → Bool
  is_empty Empty = true
  is_empty Any = false
  is_empty (At u) = false

  -- whether it says that nothing is known
  abbrev pub is_any : Low N → Bool
  is_any Empty = false
  is_any Any = true
  is_any (At u) = false

  -- where both hold: the greater of two terms
  abbrev pub meet : Low N → Low N → Low N
  meet Empty low = Empty
  meet Any low = low
  meet (At a) Empty = Empty
  meet (At a) Any = At a
  meet (At a) (At b) = if is_lt (order a.value b.value) then At b else At a

  -- where one of them holds: the lesser of two terms
  abbrev pub join : Low N → Low N → Low N
  join Empty low = low
  join Any low = Any
  join (At a) Empty = At a
  join (At a) Any = Any
  join (At a) (At b) = if is_lt (order a.value b.value) then At a else At b

  -- nothing is known where something holds, and else there is nothing
  abbrev pub any_if : Bool → Low N
  any_if true = Any
  any_if false = Empty
