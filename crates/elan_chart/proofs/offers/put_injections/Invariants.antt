use Rattle.std.proofs.Common.{◌≡◌, drop}
use Rattle.std.specs.List.{flat_map}
use Rattle.elan_entries.specs.Found.{put_all}
use Rattle.elan_chart.specs.Offers as spec
use Rattle.elan_chart.proofs.offers.put_injections.Given as goal

abbrev pub invariant-loop-op : goal.invariant-loop-op
invariant-loop-op l = put_all l.run (flat_map (spec.injection_offer l.signature l.sort l.tie l.tree) (drop l.op-index l.injections)) ≡ put_all l.initial.run (flat_map (spec.injection_offer l.signature l.sort l.tie l.tree) l.injections)
