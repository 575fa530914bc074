use Rattle.std.proofs.Common.{sym, ap, ◌∙◌, not, is_gt}
use Rattle.elan_terms.proofs.TestLemmas.{ascends_more, ascends_not}
use Rattle.elan_terms.proofs.settled.+is_ascending.Goals as goal

pub returns-then-not-is_gt : goal.returns-then-not-is_gt
returns-then-not-is_gt t c =
    ascends_more _ _ _ _ c.in-len1-up.len_at_least c.in-len1-up-rest.len_at_least c.first-item.is c.second-item.is
    (ap is_gt (sym c.compare.ensures) ∙ sym c.is_gt.ensures ∙ c.if-not-is_gt.true) c.is_ascending.ensures

pub returns-else-not-is_gt : goal.returns-else-not-is_gt
returns-else-not-is_gt t c =
    ascends_not _ _ _ _ c.in-len1-up.len_at_least c.in-len1-up-rest.len_at_least c.first-item.is c.second-item.is
    (ap is_gt (sym c.compare.ensures) ∙ sym c.is_gt.ensures ∙ c.if-not-is_gt.false) (ap not c.if-not-is_gt.false)
