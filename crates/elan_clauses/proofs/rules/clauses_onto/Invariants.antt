use Rattle.std.proofs.Common.{◌≡◌, length}
use Rattle.elan_clauses.specs.Rules.{checked_clauses}
use Rattle.elan_clauses.proofs.rules.clauses_onto.Given as goal

-- the conditions that are left decide behind those that were checked
abbrev pub invariant-clauses : goal.invariant-clauses
invariant-clauses g l =
    checked_clauses (g.R.Read.reads l.around.reader.now) l.around.signature.now l.around.names.now l.around.text.now l.around.variables.now l.out l.bound l.left
    ≡ checked_clauses (g.R.Read.reads l.around.reader.now) l.around.signature.now l.around.names.now l.around.text.now l.around.variables.now l.fn.out l.fn.bound l.fn.clauses

abbrev pub decreases-clauses : goal.decreases-clauses
decreases-clauses g l = length l.left
