use Rattle.std.proofs.Common.{subst}
use Rattle.elan_terms.specs.Valid.{IsNumber, IsAllowed, IsValid}
use Rattle.elan_terms.proofs.TestLemmas.{all_with_first, throughout_decides}
use Rattle.elan_terms.proofs.valid.+valid.Goals as goal

pub are_valid-returns-then-is_valid : goal.are_valid-returns-then-is_valid
are_valid-returns-then-is_valid t c =
    all_with_first (IsValid c.args.shapes.now) _ _ _ c.in-len1-up.len_at_least c.first-item.is (c.is_valid.ensures.0 c.if-is_valid.true) c.are_valid.ensures

pub is_valid-returns-then-is_allowed : goal.is_valid-returns-then-is_allowed
is_valid-returns-then-is_allowed t c =
    throughout_decides (IsNumber c.args.shapes.now) (IsAllowed c.args.shapes.now) _ c.in-App.op c.in-App.args _ _ c.in-App.is c.as_slice-then-is_allowed.ensures
    (subst (IsAllowed c.args.shapes.now c.in-App.op) c.as_slice.ensures (c.is_allowed.ensures.0 c.if-is_allowed.true)) c.are_valid.ensures
