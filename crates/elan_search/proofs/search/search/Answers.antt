use Rattle.elan_table.specs.Rows.{terms}
use Rattle.elan_search.specs.Bounds.{term_if}
use Rattle.elan_search.proofs.SearchLemmas.{turn_found}
use Rattle.elan_search.proofs.search.search.Goals as goal

pub returns-in-Found : goal.returns-in-Found
returns-in-Found g c =
    turn_found (g.A.Ahead.lists c.args.ahead.now) (g.A.Ahead.long c.args.ahead.now) (terms c.args.done) (terms c.loop.done) (terms c.step.new.done)
    (term_if c.args.floor) (term_if c.loop.floor) (term_if c.step.new.floor) c.in_ok-step.field-0 (g.met.A.Ahead.all_long c.args.ahead.now)
    c.loop.invariant.same c.in_ok-step.ensures c.in-Found.is
