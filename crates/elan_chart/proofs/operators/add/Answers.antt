use Rattle.std.proofs.Common.{◌∙◌, ◌<◌, ◌≤◌, length, rules}
use Rattle.elan_chart.proofs.TableLemmas.{added_set, added_past}
use Rattle.elan_chart.proofs.operators.add.Goals as goal

pub returns-in_ok-push : goal.returns-in_ok-push
returns-in_ok-push c =
    let less : c.args.at < length c.args.table.now.items = search rules in
    added_set c.args.table.now.items c.args.at c.args.op c.replace-row.result c.push.new.self c.replace-row.new.dest _ less
    (c.replace-row.ensures.value ∙ c.index_mut.ensures.value) (c.in_ok-push.ensures {u = tt}).ok

pub returns-else-at-len : goal.returns-else-at-len
returns-else-at-len c =
    let past : length c.args.table.now.items ≤ c.args.at = search rules in
    added_past c.args.table.now.items c.args.at c.args.op past
