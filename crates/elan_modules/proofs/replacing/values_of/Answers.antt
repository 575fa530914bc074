use Rattle.std.proofs.lemmas.List.{take_rest}
use Rattle.elan_modules.proofs.ReplacingLemmas.{each_next, index_past, index_short, index_next}
use Rattle.elan_modules.proofs.replacing.values_of.Goals as goal

pub returns-in_default-rest : goal.returns-in_default-rest
returns-in_default-rest c = index_short c.args.parameters.now c.args.sorts.now c.pairs.known c.pairs.values
    c.pairs.left.now c.pairs.rest.now c.pairs.invariant.each c.pairs.invariant.same c.in_default-rest.len_below

pub pairs-preserved : goal.pairs-preserved
pairs-preserved c = record {
  each = rw (c.in_ok-add_value.ensures.known, c.in_ok-add_value.ensures.values)
      (each_next c.pairs.known c.pairs.values c.parameter-item.result c.sort-item.result c.pairs.invariant.each);
  same = index_next c.args.parameters.now c.args.sorts.now c.pairs.known c.pairs.values _ _ c.pairs.left.now
      c.pairs.rest.now _ _ c.parameter-item.result c.sort-item.result c.parameter-item.is c.in-len1-up.len_at_least
      c.sort-item.is c.in-len1-up-rest.len_at_least (take_rest _ 1) (take_rest _ 1) c.in_ok-add_value.ensures.known
      c.in_ok-add_value.ensures.values c.pairs.invariant.each c.pairs.invariant.same;
}

pub returns : goal.returns
returns c = index_past c.args.parameters.now c.args.sorts.now c.pairs.known c.pairs.values c.pairs.left.now
    c.pairs.rest.now c.pairs.invariant.each c.pairs.invariant.same c.in_default.len_below
