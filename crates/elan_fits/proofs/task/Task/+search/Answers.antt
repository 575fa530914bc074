use Rattle.std.proofs.Common.{◌∙◌, arith}
use Rattle.elan_fits.proofs.WalkLemmas.{others-next}
use Rattle.elan_fits.proofs.task.Task.+search.Goals as goal

pub search_at-search-requires : goal.search_at-search-requires
search_at-search-requires t c = (
  omega arith,
  (
    c.requires.task,
    others-next c.args.before.now _ c.args.self.now.variables c.args.rest.now c.args.first c.as_slice-2.result.now c.requires.next (c.as_slice-2.ensures ∙ c.in_ok-longer.ensures),
  ),
)
