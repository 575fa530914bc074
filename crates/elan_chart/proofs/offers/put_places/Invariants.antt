use Rattle.std.proofs.Common.{◌≡◌, drop}
use Rattle.std.specs.List.{flat_map}
use Rattle.elan_entries.specs.Found.{put_all}
use Rattle.elan_chart.specs.Offers as spec
use Rattle.elan_chart.proofs.offers.put_places.Given as goal

abbrev pub invariant-loop-place : goal.invariant-loop-place
invariant-loop-place l = put_all l.run (flat_map (spec.variable_at l.variables) (drop l.place-index l.places)) ≡ put_all l.initial.run (flat_map (spec.variable_at l.variables) l.places)
