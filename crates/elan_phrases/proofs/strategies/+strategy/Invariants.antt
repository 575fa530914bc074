use Rattle.std.proofs.Common.{◌≡◌, ◌≤◌, ◌+◌, ◌*◌}
use Rattle.elan_phrases.specs.Strategies as grammar
use Rattle.elan_phrases.proofs.strategies.+strategy.Given as goal

-- each call takes a token first, or stands lower in this order
abbrev pub decreases-strategy : goal.decreases-strategy
decreases-strategy l = 10 * l.left + 7

abbrev pub decreases-step : goal.decreases-step
decreases-step l = 10 * l.left + 6

abbrev pub decreases-named : goal.decreases-named
decreases-named l = 10 * l.left + 5

abbrev pub decreases-all_of : goal.decreases-all_of
decreases-all_of l = 10 * l.left + 5

abbrev pub decreases-choice : goal.decreases-choice
decreases-choice l = 10 * l.left + 5

abbrev pub decreases-alternatives : goal.decreases-alternatives
decreases-alternatives l = 10 * l.left + 5

abbrev pub decreases-repeated : goal.decreases-repeated
decreases-repeated l = 10 * l.left + 5

abbrev pub decreases-iterated : goal.decreases-iterated
decreases-iterated l = 10 * l.left + 5

abbrev pub decreases-rounds : goal.decreases-rounds
decreases-rounds l = 10 * l.left + 5

abbrev pub decreases-normal : goal.decreases-normal
decreases-normal l = 10 * l.left + 5

abbrev pub decreases-some_arms : goal.decreases-some_arms
decreases-some_arms l = 10 * l.left + 4

abbrev pub decreases-first_arms : goal.decreases-first_arms
decreases-first_arms l = 10 * l.left + 4

abbrev pub decreases-inside : goal.decreases-inside
decreases-inside l = 10 * l.left + 3

abbrev pub decreases-arms : goal.decreases-arms
decreases-arms l = 10 * l.left + 3

abbrev pub decreases-more_arms : goal.decreases-more_arms
decreases-more_arms l = 10 * l.before.left + 9

abbrev pub decreases-one_arm : goal.decreases-one_arm
decreases-one_arm l = 10 * l.before.left + 8

abbrev pub decreases-more_steps : goal.decreases-more_steps
decreases-more_steps l = 10 * l.before.left + 9

abbrev pub decreases-one_step : goal.decreases-one_step
decreases-one_step l = 10 * l.before.left + 8

-- what is left to read now is what was left to read at first, and no more tokens are left
abbrev pub invariant-more_arms-arms : goal.invariant-more_arms-arms
invariant-more_arms-arms l = record {
  left : l.found.left ≤ l.fn.before.left;
  same_rest :
      (grammar.more_arms grammar.strategy l.fn.before).read l.fn.reader.at l.fn.reader.rest
      ≡ (grammar.more_arms grammar.strategy l.found).read l.reader.at l.reader.rest;
}

abbrev pub decreases-more_arms-arms : goal.decreases-more_arms-arms
decreases-more_arms-arms l = l.found.left

abbrev pub invariant-more_steps-steps : goal.invariant-more_steps-steps
invariant-more_steps-steps l = record {
  left : l.found.left ≤ l.fn.before.left;
  same_rest :
      (grammar.more_steps grammar.strategy l.fn.before).read l.fn.reader.at l.fn.reader.rest
      ≡ (grammar.more_steps grammar.strategy l.found).read l.reader.at l.reader.rest;
}

abbrev pub decreases-more_steps-steps : goal.decreases-more_steps-steps
decreases-more_steps-steps l = l.found.left
