use Rattle.elan_terms.specs.Weight.{pattern_weight, pattern_weights}
use Rattle.elan_fits.proofs.direct.+walk.Given as goal

abbrev pub decreases-match_onto : goal.decreases-match_onto
decreases-match_onto l = pattern_weight l.pattern.now

abbrev pub decreases-match_each : goal.decreases-match_each
decreases-match_each l = pattern_weights l.patterns.now
