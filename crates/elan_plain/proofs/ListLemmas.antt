-- Terms as patterns.
use Rattle.elan_terms.proofs.WeightLemmas.{falls}
use Rattle.elan_meaning.proofs.NormalRules.{pattern_of-int, pattern_of-app}

pub ruleset patterns = (falls, pattern_of-int, pattern_of-app)
