use Rattle.std.proofs.Common.{◌∙◌, arith}
use Rattle.elan_fits.proofs.WalkLemmas.{others-next}
use Rattle.elan_fits.proofs.task.Task.+search_after.Goals as goal

pub search_past-search_after-requires : goal.search_past-search_after-requires
search_past-search_after-requires t c = (
  omega arith,
  (
    c.requires.task,
    (others-next c.args.before.now _ c.args.self.now.variables c.args.rest.now c.args.first c.as_slice-2.result.now c.requires.next (c.as_slice-2.ensures ∙ c.in_ok-longer.ensures), c.requires.within),
  ),
)
