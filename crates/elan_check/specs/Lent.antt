-- Sections as they are lent, and what a call ensures that gives them.
use Rattle.std.specs.Prelude.{◌≡◌, Bool, true, Result, Ok, Err, List, map}
use Rattle.std.specs.List.{list_all}
use Rattle.elan_clauses.specs.Offered.{has_few}
use Rattle.elan_text.specs.declared.refusal.Stop.{Stop}
use Rattle.elan_text.specs.declared.refusal.Stop.TheVariants.{Refused, NoMemory}
use Rattle.elan_check.specs.declared.parts.Part.{Part as LentPart}
use Rattle.elan_check.specs.declared.parts.Part.TheVariants.{Rules, Strategies}
use Rattle.elan_clauses.specs.Refusals.{Checked}
use Rattle.elan_check.specs.Laid.{Part, RulesFor, StrategiesFor}

-- a section, as it is lent
abbrev pub seen_part : LentPart → Part
seen_part (Rules text sort tokens variables rules) = RulesFor text.now sort tokens variables rules.now
seen_part (Strategies text sort definitions) = StrategiesFor text.now sort definitions.now

-- a call gives the section that a definition says; nothing is said where memory was wanted
abbrev pub Tells : Result LentPart Stop → Checked Part → Type 0
Tells (Ok part) d = d ≡ Ok (seen_part part)
Tells (Err (Refused r)) d = d ≡ Err r
Tells (Err NoMemory) d = Unit {0}

-- the same of all sections
abbrev pub TellsAll : Result (List LentPart) Stop → Checked (List Part) → Type 0
TellsAll (Ok parts) d = d ≡ Ok (map seen_part parts)
TellsAll (Err (Refused r)) d = d ≡ Err r
TellsAll (Err NoMemory) d = Unit {0}

-- a section's definitions have fewer than 4,294,967,296 parameters each
abbrev pub are_few : Part → Bool
are_few (RulesFor text sort tokens variables rules) = true
are_few (StrategiesFor text sort definitions) = list_all has_few definitions
