use Rattle.std.specs.List.{flat_map}
use Rattle.std.specs.Option.{option_copied}
use Rattle.elan_entries.specs.Found.{put_all}
use Rattle.elan_chart.specs.Offers as spec
use Rattle.elan_entries.proofs.PutLemmas.{put_item}
use Rattle.elan_chart.proofs.offers.put_lasts.Goals as goal

pub loop-whole-preserved : goal.loop-whole-preserved
loop-whole-preserved c =
    put_item (spec.lasts_offer c.args.signature.now (option_copied c.args.before) c.args.lasts.now) c.args.wholes.now c.loop-whole.whole-index c.whole-item.result c.loop-whole.run c.put_lasts_of.new.run
    (put_all c.args.run.now (flat_map (spec.lasts_offer c.args.signature.now (option_copied c.args.before) c.args.lasts.now) c.args.wholes.now))
    c.loop-whole-test.true c.whole-item.is (c.in_ok-put_lasts_of.ensures {u = tt}) c.loop-whole.invariant
