use Rattle.std.proofs.Common.{◌≡◌, drop}
use Rattle.std.specs.List.{flat_map}
use Rattle.elan_entries.specs.Found.{put_all}
use Rattle.elan_chart.specs.Offers as spec
use Rattle.elan_chart.proofs.offers.put_risen.Given as goal

abbrev pub invariant-loop-whole : goal.invariant-loop-whole
invariant-loop-whole l = put_all l.run (flat_map (spec.risen_offer l.signature l.injections) (drop l.whole-index l.level)) ≡ put_all l.initial.run (flat_map (spec.risen_offer l.signature l.injections) l.level)
