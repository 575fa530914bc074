use Rattle.std.proofs.Common.{subst}
use Rattle.elan_terms.specs.Canonical.{IsSettled, IsCanonical}
use Rattle.elan_terms.proofs.TestLemmas.{all_with_first, throughout_decides}
use Rattle.elan_terms.proofs.settled.+canonical.Goals as goal

pub are_canonical-returns-then-is_canonical : goal.are_canonical-returns-then-is_canonical
are_canonical-returns-then-is_canonical t c =
    all_with_first (IsCanonical c.args.shapes.now) _ _ _ c.in-len1-up.len_at_least c.first-item.is (c.is_canonical.ensures.0 c.if-is_canonical.true) c.are_canonical.ensures

pub is_canonical-returns-then-is_settled : goal.is_canonical-returns-then-is_settled
is_canonical-returns-then-is_settled t c =
    throughout_decides (λ _. Unit {0}) (IsSettled c.args.shapes.now) _ c.in-App.op c.in-App.args _ _ c.in-App.is c.as_slice-then-is_settled.ensures
    (subst (IsSettled c.args.shapes.now c.in-App.op) c.as_slice.ensures (c.is_settled.ensures.0 c.if-is_settled.true)) c.are_canonical.ensures
