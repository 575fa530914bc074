use Rattle.std.proofs.Common.{◌≡◌, drop}
use Rattle.std.specs.List.{flat_map}
use Rattle.std.specs.Option.{option_copied}
use Rattle.elan_entries.specs.Found.{put_all}
use Rattle.elan_chart.specs.Offers as spec
use Rattle.elan_chart.proofs.offers.put_words.Given as goal

abbrev pub invariant-loop-rest : goal.invariant-loop-rest
invariant-loop-rest l = put_all l.run (flat_map (spec.word_offer l.signature (option_copied l.before) l.first) (drop l.rest-index l.rests)) ≡ put_all l.initial.run (flat_map (spec.word_offer l.signature (option_copied l.before) l.first) l.rests)
