use Rattle.elan_table.specs.Rows.{terms}
use Rattle.elan_search.specs.Bounds.{term_if}
use Rattle.elan_search.specs.Place.{IsPlace, SameAhead}
use Rattle.elan_search.proofs.search.search.Given as goal

-- the lists that were ahead at first are ahead
abbrev pub invariant-loop : goal.invariant-loop
invariant-loop g l = record {
  place : IsPlace (g.A.Ahead.long l.ahead) (terms l.done) (term_if l.floor);
  same : SameAhead (g.A.Ahead.lists l.ahead) (terms l.fn.done) (term_if l.fn.floor) (terms l.done) (term_if l.floor);
}
