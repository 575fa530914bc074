use Rattle.elan_laws.proofs.CanonicalLaws as laws
use Rattle.elan_laws.proofs.laws.canonical_form.Goals as goal

pub returns-clause-canonical : goal.returns-clause-canonical
returns-clause-canonical c = λ shapes t. laws.canon-canonical shapes t

pub returns-clause-itself : goal.returns-clause-itself
returns-clause-itself c = λ shapes t h. laws.canonical-canon shapes t h

pub returns-clause-idempotent : goal.returns-clause-idempotent
returns-clause-idempotent c = λ shapes t. laws.canon-idempotent shapes t

pub returns-clause-sort : goal.returns-clause-sort
returns-clause-sort c = λ shapes t. laws.canon-sort shapes t

pub returns-clause-valid : goal.returns-clause-valid
returns-clause-valid c = λ shapes t h. laws.canon-valid shapes t h
