use Rattle.std.proofs.Common.{sym, ap, ◌∙◌, subst, Some, option_map}
use Rattle.std.specs.Option.{option_copied}
use Rattle.elan_table.specs.Rows.{terms}
use Rattle.elan_shares.specs.Nodes.{MayStandUnder, Kept, FindsFirst, IsTaken, IsOver}
use Rattle.elan_shares.proofs.NodeLemmas.{kept_ascends, node_none, taken_made, node_found}
use Rattle.elan_shares.proofs.node.least_node.Goals as goal

pub first_args-requires-clause-ascend : goal.first_args-requires-clause-ascend
first_args-requires-clause-ascend g c =
    kept_ascends (MayStandUnder g.N.Name.shapes c.args.op) (terms c.as_slice.result.now) (terms c.args.rows.now)
    (subst (λ ws. Kept (MayStandUnder g.N.Name.shapes c.args.op) (terms ws) (terms c.args.rows.now)) (sym c.as_slice.ensures) (c.in_ok-able.ensures {u = tt})) c.requires.ascend

pub returns-in-None : goal.returns-in-None
returns-in-None g c =
    node_none g.N.Name.shapes c.args.op c.requires.ac c.args.places.now c.args.count (terms c.as_slice.result.now) (terms c.args.rows.now) (option_copied c.args.floor)
    (subst (λ ws. Kept (MayStandUnder g.N.Name.shapes c.args.op) (terms ws) (terms c.args.rows.now)) (sym c.as_slice.ensures) (c.in_ok-able.ensures {u = tt}))
    (subst (FindsFirst (IsTaken c.args.places.now c.args.count (terms c.as_slice.result.now) (IsOver c.args.op (option_copied c.args.floor)))) (ap (option_map terms) c.in-None.is) (c.in_ok-first_args.ensures {u = tt}))

pub made-requires : goal.made-requires
made-requires g c =
    let first : FindsFirst (IsTaken c.args.places.now c.args.count (terms c.as_slice.result.now) (IsOver c.args.op (option_copied c.args.floor))) (Some (terms c.as_slice-in-Some.result.now))
    = subst (FindsFirst (IsTaken c.args.places.now c.args.count (terms c.as_slice.result.now) (IsOver c.args.op (option_copied c.args.floor))))
    (ap (option_map terms) c.in-Some.is ∙ ap (λ ws. Some (terms ws)) (sym c.as_slice-in-Some.ensures)) (c.in_ok-first_args.ensures {u = tt}) in
    taken_made g.N.Name.shapes c.args.op c.requires.ac c.args.places.now c.args.count (terms c.as_slice.result.now) (terms c.args.rows.now) (option_copied c.args.floor)
    (subst (λ ws. Kept (MayStandUnder g.N.Name.shapes c.args.op) (terms ws) (terms c.args.rows.now)) (sym c.as_slice.ensures) (c.in_ok-able.ensures {u = tt}))
    (terms c.as_slice-in-Some.result.now) c.requires.ascend first.is

pub returns : goal.returns
returns g c =
    let first : FindsFirst (IsTaken c.args.places.now c.args.count (terms c.as_slice.result.now) (IsOver c.args.op (option_copied c.args.floor))) (Some (terms c.as_slice-in-Some.result.now))
    = subst (FindsFirst (IsTaken c.args.places.now c.args.count (terms c.as_slice.result.now) (IsOver c.args.op (option_copied c.args.floor))))
    (ap (option_map terms) c.in-Some.is ∙ ap (λ ws. Some (terms ws)) (sym c.as_slice-in-Some.ensures)) (c.in_ok-first_args.ensures {u = tt}) in
    node_found g.N.Name.shapes c.args.op c.requires.ac c.args.places.now c.args.count (terms c.as_slice.result.now) (terms c.args.rows.now) (option_copied c.args.floor)
    (subst (λ ws. Kept (MayStandUnder g.N.Name.shapes c.args.op) (terms ws) (terms c.args.rows.now)) (sym c.as_slice.ensures) (c.in_ok-able.ensures {u = tt}))
    (terms c.as_slice-in-Some.result.now) c.in_ok-row-in-Some.row first (c.in_ok-row-in-Some.ensures {u = tt}).value (c.in_ok-row-in-Some.ensures {u = tt}).may
