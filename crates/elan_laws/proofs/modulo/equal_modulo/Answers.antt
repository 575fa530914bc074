use Rattle.std.proofs.Common.{ap, ◌∙◌, is_eq}
use Rattle.elan_laws.proofs.TestLemmas.{forms_decide, equal_decides}
use Rattle.elan_laws.proofs.modulo.equal_modulo.Goals as goal

pub returns-clause-forms : goal.returns-clause-forms
returns-clause-forms c = forms_decide _ _ _ _ _ c.in_ok-first.ensures c.in_ok-second.ensures (c.is_eq.ensures ∙ ap is_eq c.compare.ensures)

pub returns-clause-equal : goal.returns-clause-equal
returns-clause-equal c = λ v w. equal_decides _ _ _ _ v w (forms_decide _ _ _ _ _ c.in_ok-first.ensures c.in_ok-second.ensures (c.is_eq.ensures ∙ ap is_eq c.compare.ensures))
