use Rattle.std.proofs.Common.{◌≡◌, ◌<◌, sym, ◌∙◌, subst, length, [], arith}
use Rattle.elan_shared.specs.Nodes.{arguments}
use Rattle.elan_shared.proofs.NodeLemmas.{arguments-int}
use Rattle.elan_table.proofs.Nodes.{arg_within, arg_found}
use Rattle.elan_table.proofs.table.Table.part.Goals as goal

pub unreachable-requires : goal.unreachable-requires
unreachable-requires g c =
    let none : arguments c.args.term.now.value ≡ [] = arguments-int _ _ (sym c.row.ensures ∙ c.in-Int.ensures {u = tt}) in
    let low : c.args.place < 0 = subst (λ l. c.args.place < length l) none c.requires in omega arith

pub nth-requires : goal.nth-requires
nth-requires g c = arg_within _ _ _ _ (sym c.row.ensures ∙ c.in-App.ensures {u = tt}) c.requires

pub returns : goal.returns
returns g c = arg_found _ _ _ _ (sym c.row.ensures ∙ c.in-App.ensures {u = tt}) _ c.nth.ensures
