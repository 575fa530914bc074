use Rattle.std.proofs.Common.{refl, ◌∙◌}
use Rattle.elan_tree.proofs.KidsLemmas.{not_one}
use Rattle.elan_tree.proofs.kids.only.Goals as goal

pub returns-then-len-ne1 : goal.returns-then-len-ne1
returns-then-len-ne1 g c = (refl, not_one c.args.kids.items (λ e. c.if-len-ne1.true (c.len.ensures ∙ c.args.kids.ok.0 ∙ e)))
