use Rattle.std.proofs.Common.{◌+◌, ◌∙◌, ap, length, take, arith}
use Rattle.std.specs.List.{take_while}
use Rattle.elan_tree.specs.Kids.{not_item}
use Rattle.elan_tree.specs.Tree.{trees}
use Rattle.elan_tree.proofs.KidsLemmas.{cut-kids, cut-none}
use Rattle.elan_tree.proofs.kids.cut.Goals as goal

pub returns-then-before-len : goal.returns-then-before-len
returns-then-before-len g c =
    ap trees c.truncate.ensures.items ∙ ap (λ n. trees (take (n + 1) c.args.kids.now.items)) (c.before_item-before.ensures ∙ ap (λ xs. length (take_while not_item xs)) c.deref.ensures.value) ∙ cut-kids c.args.kids.now.items

pub returns-else-before-len : goal.returns-else-before-len
returns-else-before-len g c = cut-none c.args.kids.now.items (omega (arith, c.if-before-len.false, c.len.ensures, c.before_item-before.ensures, ap (λ xs. length (take_while not_item xs)) c.deref.ensures.value, c.args.kids.now.ok.0))
