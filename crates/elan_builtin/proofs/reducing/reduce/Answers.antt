use Rattle.std.proofs.Common.{sym, ap, ◌∙◌}
use Rattle.elan_builtin.specs.Stands.{term_of}
use Rattle.elan_builtin.proofs.StandLemmas.{value-term}
use Rattle.elan_builtin.proofs.reducing.reduce.Goals as goal

pub returns-clause-terms : goal.returns-clause-terms
returns-clause-terms c = λ truth ts stand tells. value-term truth c.args.op c.args.args.now ts c.args.same stand tells ∙ ap (term_of truth) (sym c.value.ensures)
