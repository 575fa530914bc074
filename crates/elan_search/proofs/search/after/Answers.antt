use Rattle.std.proofs.Common.{◌∙◌, sym, None}
use Rattle.std.proofs.lemmas.Result.{IfOk-weaker}
use Rattle.elan_table.specs.Rows.{terms}
use Rattle.elan_search.proofs.SearchLemmas.{next_of, next_none, next_gives}
use Rattle.elan_search.proofs.search.after.Goals as goal

pub returns-in-None-clause-owed : goal.returns-in-None-clause-owed
returns-in-None-clause-owed g c = next_gives (g.A.Ahead.lists c.args.ahead.now) (terms c.args.last.now) None (g.met.A.Ahead.ascend c.args.ahead.now)
    (next_none (g.A.Ahead.lists c.args.ahead.now) (g.A.Ahead.long c.args.ahead.now) c.args.last.now (g.met.A.Ahead.all_long c.args.ahead.now) c.requires
    (sym c.in_ok-done.ensures ∙ c.in-None.ensures.0))

pub returns-in-Some-clause-next : goal.returns-in-Some-clause-next
returns-in-Some-clause-next g c = IfOk-weaker c.search.result _ _
    (λ found. next_of (g.A.Ahead.lists c.args.ahead.now) (g.A.Ahead.long c.args.ahead.now) c.args.last.now c.pop.new.self c.in-Some.floor found
    (g.met.A.Ahead.all_long c.args.ahead.now) c.requires (sym c.in_ok-done.ensures ∙ c.in-Some.ensures)) c.search.ensures

pub returns-in-Some-clause-owed : goal.returns-in-Some-clause-owed
returns-in-Some-clause-owed g c = IfOk-weaker c.search.result _ _
    (λ found h. next_gives (g.A.Ahead.lists c.args.ahead.now) (terms c.args.last.now) found (g.met.A.Ahead.ascend c.args.ahead.now)
    (next_of (g.A.Ahead.lists c.args.ahead.now) (g.A.Ahead.long c.args.ahead.now) c.args.last.now c.pop.new.self c.in-Some.floor found
    (g.met.A.Ahead.all_long c.args.ahead.now) c.requires (sym c.in_ok-done.ensures ∙ c.in-Some.ensures) h)) c.search.ensures
