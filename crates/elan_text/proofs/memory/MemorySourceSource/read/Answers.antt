use Rattle.elan_text.proofs.Fronts.{consumes_next}
use Rattle.elan_text.proofs.memory.MemorySourceSource.read.Goals as goal

pub returns-clause-gives : goal.returns-clause-gives
returns-clause-gives c = consumes_next _ _ _ _ _ c.as_slice.ensures.value c.fill-count.ensures.copied
