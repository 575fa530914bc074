use Rattle.std.proofs.Common.{rules, sym, ap, ◌∙◌, to_z, of_z, w64, SFits}
use Rattle.std.proofs.lemmas.Int.{to_z-of_z}
use Rattle.std.proofs.lemmas.List.{length-map}
use Rattle.elan_table.specs.declared.node.Node.TheVariants.{Int, App}
use Rattle.elan_table.proofs.Nodes.{node_of-int, node_of-app}
use Rattle.elan_table.proofs.table.Table.node.Goals as goal

pub returns-in-Int : goal.returns-in-Int
returns-in-Int g c =
    let fits : SFits w64 c.in-Int.value = search rules in
    ap Int (to_z-of_z w64 c.in-Int.value fits) ∙ node_of-int _ _ (sym c.row.ensures ∙ c.in-Int.ensures {u = tt})

pub returns-in-App : goal.returns-in-App
returns-in-App g c = ap (λ n. App c.in-App.op n) (sym (length-map c.in-App.args.now (λ t. t.value))) ∙ node_of-app _ _ _ (sym c.row.ensures ∙ c.in-App.ensures {u = tt})
