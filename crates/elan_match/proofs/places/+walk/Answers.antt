use Rattle.elan_shared.specs.Nodes.{arguments}
use Rattle.elan_table.specs.Rows.{terms}
use Rattle.elan_match.proofs.StepLemmas.{values_at-var, onto-args, each-on, each-off}
use Rattle.elan_match.proofs.places.+walk.Goals as goal

pub match_each-returns-then-branch : goal.match_each-returns-then-branch
match_each-returns-then-branch g t c =
    simp (each-on g.N.Name.shapes c.args.first (terms c.args.found.now) c.args.patterns.now (arguments c.args.term.now.value) c.args.place c.requires.as_many _ _ _ _ c.in-len1-up.len_at_least c.pattern-item.is
    c.in_ok-arg-in-len1-up.ensures c.if-branch.true c.in_ok-match_onto-in-len1-up.ensures) c.match_each.ensures

pub match_each-returns : goal.match_each-returns
match_each-returns g t c =
    each-off g.N.Name.shapes c.args.first (terms c.args.found.now) c.args.patterns.now (arguments c.args.term.now.value) c.args.place c.requires.as_many _ _ _ _ c.in-len1-up.len_at_least c.pattern-item.is
    c.in_ok-arg-in-len1-up.ensures c.if-branch.false c.in_ok-match_onto-in-len1-up.ensures

pub match_onto-returns-in-Var : goal.match_onto-returns-in-Var
match_onto-returns-in-Var g t c
    = simp (values_at-var g.N.Name.shapes c.args.first (terms c.args.found.now) c.args.pattern.now c.args.term.now.value c.in-Var.number c.in-Var.sort c.in-Var.is) c.bind.ensures

pub match_onto-returns-then-len-count : goal.match_onto-returns-then-len-count
match_onto-returns-then-len-count g t c =
    simp (onto-args g.N.Name.shapes c.args.first (terms c.args.found.now) c.args.pattern.now c.args.term.now.value c.node-in-App.result c.node-in-App.ensures c.in-App.op c.in-App-node-2.f c.in-App.args c.as_slice.result.now c.in-App-node-2.count
    c.in-App.is c.in-App-node-2.is c.if-op-f.true c.as_slice.ensures) c.match_each.ensures
