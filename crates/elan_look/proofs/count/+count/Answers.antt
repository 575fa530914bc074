use Rattle.std.proofs.Common.{sym, eq-eqb}
use Rattle.std.proofs.lemmas.Result.{IfOk-weaker}
use Rattle.elan_look.proofs.SightLemmas.{given-int}
use Rattle.elan_look.proofs.CountLemmas as counts
use Rattle.elan_look.proofs.count.+count.Goals as goal

pub count_all-returns-in_ok-more-in-len1-up : goal.count_all-returns-in_ok-more-in-len1-up
count_all-returns-in_ok-more-in-len1-up g t c = IfOk-weaker c.count_all.result _ _ (λ all h.
    counts.count-both c.args.sight.now c.args.op c.args.patterns.now c.first-item.result c.args.counts c.in_ok-more-in-len1-up.more all c.in-len1-up.len_at_least c.first-item.is (c.in_ok-more-in-len1-up.ensures {u = tt}) h) c.count_all.ensures

pub count_one-returns-in-Int : goal.count_one-returns-in-Int
count_one-returns-in-Int g t c = counts.count-none c.args.sight.now c.args.op c.args.pattern.now c.args.counts
    (counts.apart_int c.args.sight.now c.args.op c.args.pattern.now _ c.in-Int.is) (sym (given-int c.args.sight.now c.args.pattern.now _ c.in-Int.is))

pub count_one-returns-then-op-f : goal.count_one-returns-then-op-f
count_one-returns-then-op-f g t c = IfOk-weaker c.count_all.result _ _ (λ more h.
    counts.count-nested c.args.sight.now c.args.op c.args.pattern.now c.in-App.f c.in-App.args c.as_slice.result.now c.args.counts more c.in-App.is (eq-eqb c.args.op.0 c.in-App.f.0 c.if-op-f.true) c.as_slice.ensures h) c.count_all.ensures
