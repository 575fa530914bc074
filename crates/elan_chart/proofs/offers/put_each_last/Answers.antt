use Rattle.std.specs.List.{flat_map}
use Rattle.std.specs.Option.{option_copied}
use Rattle.elan_entries.specs.Found.{put_all}
use Rattle.elan_chart.specs.Offers as spec
use Rattle.elan_entries.proofs.PutLemmas.{put_place}
use Rattle.elan_chart.proofs.offers.put_each_last.Goals as goal

pub loop-op-preserved : goal.loop-op-preserved
loop-op-preserved c =
    put_place (spec.last_offer c.args.signature.now (option_copied c.args.before) c.args.whole.now) c.args.operators.now c.loop-op.op-index
    (record { 0 = 0 }) c.loop-op.run c.put_last.new.run
    (put_all c.args.run.now (flat_map (spec.last_offer c.args.signature.now (option_copied c.args.before) c.args.whole.now) c.args.operators.now))
    c.loop-op-test.true (c.in_ok-put_last.ensures {u = tt}) c.loop-op.invariant
