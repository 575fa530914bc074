use Rattle.std.proofs.Common.{◌≡◌, ◌++◌, drop}
use Rattle.std.specs.List.{filter}
use Rattle.elan_terms.specs.Match.{fits}
use Rattle.elan_terms.proofs.matching.kept.Given as goal

-- the lists so far and those that fit among the ones left are all that fit
abbrev pub invariant-loop-list : goal.invariant-loop-list
invariant-loop-list l =
    l.out ++ filter (fits l.shapes l.variables l.pattern l.term) (drop l.list-index l.list-items)
    ≡ filter (fits l.shapes l.variables l.pattern l.term) l.list-items
