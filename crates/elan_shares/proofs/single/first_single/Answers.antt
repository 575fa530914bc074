use Rattle.std.proofs.Common.{sym, ◌∙◌}
use Rattle.std.specs.Option.{option_copied}
use Rattle.elan_terms.proofs.Sorting.{not_true}
use Rattle.elan_table.specs.Rows.{terms}
use Rattle.elan_shares.proofs.SingleLemmas.{passed_none, passed_one, single_found, single_absent}
use Rattle.elan_shares.proofs.single.first_single.Goals as goal

pub rows-init : goal.rows-init
rows-init g c = passed_none g.N.Name.shapes c.args.op c.args.sort (option_copied c.args.floor) (terms c.args.rows.now) c.requires

pub returns-then-suits : goal.returns-then-suits
returns-then-suits g c = single_found g.N.Name.shapes c.args.op c.args.sort (option_copied c.args.floor) (terms c.args.rows.now) c.rows.left.now c.row-item.result c.again.result
    c.rows.invariant c.in-len1-up.len_at_least c.row-item.is c.known.ensures (c.suits.ensures.0 c.if-suits.true) c.again.ensures

pub rows-preserved : goal.rows-preserved
rows-preserved g c = passed_one g.N.Name.shapes c.args.op c.args.sort (option_copied c.args.floor) (terms c.args.rows.now) c.rows.left.now c.row-item.result
    c.rows.invariant c.in-len1-up.len_at_least c.row-item.is (λ s. not_true (sym (c.suits.ensures.1 s) ∙ c.if-suits.false))

pub returns : goal.returns
returns g c = single_absent g.N.Name.shapes c.args.op c.args.sort (option_copied c.args.floor) (terms c.args.rows.now) c.rows.left.now c.rows.invariant c.in_default.len_below
