use Rattle.std.proofs.Common.{rules, arith, sym, ap, ◌∙◌, subst}
use Rattle.elan_terms.specs.Trees.{app_term}
use Rattle.elan_table.specs.Rows.{MayStand, terms}
use Rattle.elan_table.specs.Shown.{listed}
use Rattle.elan_table.proofs.Made.{stands}
use Rattle.elan_table.proofs.Depths.{row_depth}
use Rattle.elan_table.proofs.shard.row_of.Goals as goal

pub app-requires : goal.app-requires
app-requires g c =
    (omega arith, (omega arith, row_depth c.args.op _ (terms c.args.args.now) _ c.requires.shallow c.in_ok-made.ensures.op (ap terms c.in_ok-made.ensures.args) _ _ c.greatest.ensures c.saturating_add-depth.ensures))

pub returns-clause-stands : goal.returns-clause-stands
returns-clause-stands g c =
    subst (MayStand g.N.Name.shapes)
    (sym (c.app.ensures ∙ ap (λ f. app_term f (terms (listed c.in_ok-made.made))) c.in_ok-made.ensures.op ∙ ap (λ l. app_term c.args.op (terms l)) c.in_ok-made.ensures.args))
    (stands g.N.Name.shapes c.args.op c.args.args.now c.all_known.ensures c.requires)
