use Rattle.elan_speed.proofs.Pairs.{integer_sorted, integer_low}
use Rattle.elan_speed.proofs.bench.row_of_integer.Goals as goal

pub invariant_of-result : goal.invariant_of-result
invariant_of-result g c = record {
  served = c.requires;
  sorted = integer_sorted _ _ _ c.requires (c.in_ok-int.ensures {u = tt});
  low = integer_low _ _ (c.in_ok-int.ensures {u = tt});
}
