use Rattle.std.proofs.Common.{◌≡◌, drop}
use Rattle.std.specs.List.{flat_map}
use Rattle.std.specs.Option.{option_copied}
use Rattle.elan_entries.specs.Found.{put_all}
use Rattle.elan_chart.specs.Offers as spec
use Rattle.elan_chart.proofs.offers.put_lasts.Given as goal

abbrev pub invariant-loop-whole : goal.invariant-loop-whole
invariant-loop-whole l = put_all l.run (flat_map (spec.lasts_offer l.signature (option_copied l.before) l.lasts) (drop l.whole-index l.wholes)) ≡ put_all l.initial.run (flat_map (spec.lasts_offer l.signature (option_copied l.before) l.lasts) l.wholes)
