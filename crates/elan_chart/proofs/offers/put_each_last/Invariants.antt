use Rattle.std.proofs.Common.{◌≡◌, drop}
use Rattle.std.specs.List.{flat_map}
use Rattle.std.specs.Option.{option_copied}
use Rattle.elan_entries.specs.Found.{put_all}
use Rattle.elan_chart.specs.Offers as spec
use Rattle.elan_chart.proofs.offers.put_each_last.Given as goal

abbrev pub invariant-loop-op : goal.invariant-loop-op
invariant-loop-op l = put_all l.run (flat_map (spec.last_offer l.signature (option_copied l.before) l.whole) (drop l.op-index l.operators)) ≡ put_all l.initial.run (flat_map (spec.last_offer l.signature (option_copied l.before) l.whole) l.operators)
