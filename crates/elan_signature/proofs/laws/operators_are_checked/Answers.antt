use Rattle.elan_signature.proofs.LawLemmas.{holes_exactly, ac_exactly, many_exactly, admitted_exactly}
use Rattle.elan_signature.proofs.laws.operators_are_checked.Goals as goal

pub returns-clause-holes : goal.returns-clause-holes
returns-clause-holes c = holes_exactly

pub returns-clause-ac : goal.returns-clause-ac
returns-clause-ac c = ac_exactly

pub returns-clause-many : goal.returns-clause-many
returns-clause-many c = many_exactly

pub returns-clause-admitted : goal.returns-clause-admitted
returns-clause-admitted c = admitted_exactly
