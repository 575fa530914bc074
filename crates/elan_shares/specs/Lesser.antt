-- The lesser of two values.
use Rattle.std.specs.Prelude.{Option, Some, None, if◌then◌else◌}
use Rattle.std.specs.Ordering.{is_gt}
use Rattle.boxcar.specs.Table.{Where}
use Rattle.elan_terms.specs.declared.tree.Term.{Term}
use Rattle.elan_terms.specs.Term.{order}

-- the one that is there, and the lesser where both are
abbrev pub lesser : Option (Where Term) → Option (Where Term) → Option (Where Term)
lesser None other = other
lesser (Some a) None = Some a
lesser (Some a) (Some b) = if is_gt (order a.value b.value) then Some b else Some a
