use Rattle.std.specs.Option.{option_copied}
use Rattle.elan_chart.specs.Chart.{seen}
use Rattle.elan_chart.proofs.TableLemmas.{cuts_of}
use Rattle.elan_chart.proofs.chart.+put_cuts.Goals as goal

pub returns-in_ok-put_cuts-in-len1-up-below : goal.returns-in_ok-put_cuts-in-len1-up-below
returns-in_ok-put_cuts-in-len1-up-below t c =
    cuts_of (seen c.args.scope) (option_copied c.args.before) c.args.row.now c.args.below.now c.front-item.result c.rests-item.result
    c.args.run.now c.put_front.new.run c.put_cuts.new.run c.in-len1-up.len_at_least c.in-len1-up-below.len_at_least c.front-item.is c.rests-item.is
    (c.in_ok-put_front-in-len1-up-below.ensures {u = tt}) (c.in_ok-put_cuts-in-len1-up-below.ensures {u = tt})
