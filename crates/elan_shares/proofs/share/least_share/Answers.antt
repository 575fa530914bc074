use Rattle.std.proofs.Common.{sym, ◌∙◌, subst, length}
use Rattle.std.specs.Option.{option_copied}
use Rattle.elan_terms.proofs.Sorting.{not_true}
use Rattle.elan_table.specs.Rows.{terms}
use Rattle.elan_bags.specs.Bags.{IsOver}
use Rattle.elan_shares.specs.Shares.{FindsLeastTerm, IsShare}
use Rattle.elan_shares.specs.Singles.{IsAlone}
use Rattle.elan_shares.specs.Nodes.{IsNode}
use Rattle.elan_shares.proofs.RowLemmas.{terms-length}
use Rattle.elan_shares.proofs.ShareLemmas.{only_alone, alone_or_node}
use Rattle.elan_shares.proofs.share.least_share.Goals as goal

pub returns-then-not-makes : goal.returns-then-not-makes
returns-then-not-makes g c =
    only_alone g.N.Name.shapes c.args.op (terms c.args.rows.now) (terms c.as_slice.result.now) c.args.places.now (length c.args.rows.now) c.args.sort (option_copied c.args.floor)
    c.requires.ac c.requires.placed (sym (terms-length c.args.rows.now))
    (subst (λ ws. IsOver c.args.places.now.sought (terms c.args.rows.now) (terms ws)) (sym c.as_slice.ensures) (c.in_ok-shared.ensures {u = tt} c.requires.ascend))
    (λ own. not_true (sym (c.makes.ensures.1 own) ∙ c.if-not-makes.true)) c.least_single-single.result c.least_single-single.ensures

pub returns : goal.returns
returns g c =
    subst (FindsLeastTerm (IsShare g.N.Name.shapes c.args.op (terms c.args.rows.now) c.args.places.now c.args.sort (option_copied c.args.floor))) (sym c.lesser.ensures)
    (alone_or_node g.N.Name.shapes c.args.op (terms c.args.rows.now) (terms c.in_ok-shared.shared) c.args.places.now (length c.args.rows.now) c.args.sort (option_copied c.args.floor)
    c.requires.ac c.requires.placed (sym (terms-length c.args.rows.now)) (c.in_ok-shared.ensures {u = tt} c.requires.ascend)
    (c.makes.ensures.0 c.if-not-makes.false) c.least_single-single.result c.in_ok-node.node
    (subst (λ ws. FindsLeastTerm (IsAlone g.N.Name.shapes c.args.op c.args.places.now (length c.args.rows.now) (terms ws) c.args.sort (option_copied c.args.floor)) c.least_single-single.result) c.as_slice.ensures c.least_single-single.ensures)
    (subst (λ ws. FindsLeastTerm (IsNode g.N.Name.shapes c.args.op c.args.places.now (length c.args.rows.now) (terms ws) (option_copied c.args.floor)) c.in_ok-node.node) c.as_slice-2.ensures (c.in_ok-node.ensures {u = tt})))
