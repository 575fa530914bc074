use Rattle.std.proofs.Common.{◌≡◌, ◌++◌, drop}
use Rattle.elan_terms.specs.Match.{prefixed}
use Rattle.elan_terms.proofs.pieces.prefixed_onto.Given as goal

-- the lists so far and those left, each with the term before it, are those that there were and all
abbrev pub invariant-loop-list : goal.invariant-loop-list
invariant-loop-list l = l.out ++ prefixed (drop l.list-index l.lists) l.first ≡ l.initial.out ++ prefixed l.lists l.first
