use Rattle.std.proofs.lemmas.Result.{IfOk-weaker}
use Rattle.elan_search.proofs.SearchLemmas.{first_from, first_gives}
use Rattle.elan_search.proofs.search.first.Goals as goal

pub returns-clause-first : goal.returns-clause-first
returns-clause-first g c = IfOk-weaker c.search.result _ _ (λ found. first_from (g.A.Ahead.lists c.args.ahead.now) c.new.result found c.new.ensures) c.search.ensures

pub returns-clause-owed : goal.returns-clause-owed
returns-clause-owed g c = IfOk-weaker c.search.result _ _
    (λ found h. first_gives (g.A.Ahead.lists c.args.ahead.now) found (g.met.A.Ahead.ascend c.args.ahead.now)
    (first_from (g.A.Ahead.lists c.args.ahead.now) c.new.result found c.new.ensures h)) c.search.ensures
