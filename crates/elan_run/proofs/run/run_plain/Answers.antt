use Rattle.elan_run.proofs.Causes.{headline_of, completes_of, words_of}
use Rattle.elan_run.proofs.run.run_plain.Goals as goal

pub returns-clause-headline : goal.returns-clause-headline
returns-clause-headline g c = headline_of _ _ _ _ _ c.ran.ensures.moved c.ran.result c.ran.ensures.leaves

pub returns-clause-complete : goal.returns-clause-complete
returns-clause-complete g c = completes_of _ _ _ _ _ c.ran.ensures.moved c.ran.result c.ran.ensures.leaves

pub returns-clause-words : goal.returns-clause-words
returns-clause-words g c = words_of _ _ _ _ _ c.ran.ensures.moved c.ran.result c.ran.ensures.leaves
