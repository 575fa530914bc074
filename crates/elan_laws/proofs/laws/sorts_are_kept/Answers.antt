use Rattle.std.proofs.Common.{◌∙◌}
use Rattle.elan_laws.proofs.CanonicalLaws.{canon-valid, canon-sort}
use Rattle.elan_laws.proofs.SortLaws as laws
use Rattle.elan_laws.proofs.laws.sorts_are_kept.Goals as goal

pub returns-clause-parts : goal.returns-clause-parts
returns-clause-parts c = λ shapes t p v h. laws.part-valid shapes p t v h

pub returns-clause-matches : goal.returns-clause-matches
returns-clause-matches c = λ shapes p t values v m. laws.match-valid shapes p t values v m

pub returns-clause-filled : goal.returns-clause-filled
returns-clause-filled c = λ shapes sorts known p s values n h u e. laws.filled-suits shapes sorts known p s values e u n h

pub returns-clause-canonical : goal.returns-clause-canonical
returns-clause-canonical c = λ shapes s t h. (canon-valid shapes t h.0, canon-sort shapes t ∙ h.1)
