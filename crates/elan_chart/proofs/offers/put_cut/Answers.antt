use Rattle.std.specs.List.{flat_map}
use Rattle.std.specs.Option.{option_copied}
use Rattle.elan_entries.specs.Found.{put_all}
use Rattle.elan_chart.specs.Offers as spec
use Rattle.elan_entries.proofs.PutLemmas.{put_item}
use Rattle.elan_chart.proofs.offers.put_cut.Goals as goal

pub loop-rest-preserved : goal.loop-rest-preserved
loop-rest-preserved c =
    put_item (spec.rest_offer c.args.signature.now (option_copied c.args.before) c.args.wholes.now) c.args.rests.now c.loop-rest.rest-index c.rest-item.result c.loop-rest.run c.put_rest.new.run
    (put_all c.args.run.now (flat_map (spec.rest_offer c.args.signature.now (option_copied c.args.before) c.args.wholes.now) c.args.rests.now))
    c.loop-rest-test.true c.rest-item.is (c.in_ok-put_rest.ensures {u = tt}) c.loop-rest.invariant
