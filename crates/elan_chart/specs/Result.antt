-- What was collected from the run of a whole text, and what it says of the text's readings.
use Rattle.std.specs.Prelude.{◌≡◌, Option, Some, None, List, [], ◌∷◌}
use Rattle.elan_terms.specs.declared.tree.Pattern.{Pattern}
use Rattle.elan_program.specs.declared.signature.Signature.{Signature}
use Rattle.elan_reading.specs.declared.lexeme.Lexeme.{Lexeme}
use Rattle.elan_reading.specs.declared.lexeme.Variable.{Variable}
use Rattle.elan_reading.specs.declared.sought.Sought.{Sought}
use Rattle.elan_reading.specs.Answers.{IsOnly, HasNone, HasSeveral}
use Rattle.elan_entries.specs.declared.found.Found.{Found}
use Rattle.elan_entries.specs.declared.found.Found.TheVariants.{One, Several}

-- nothing was collected where there is no reading, one tree where that is the only one, and several where there are two
abbrev pub IsOutcome : Signature → List Variable → List Lexeme → Sought → Option Found → Type 0
IsOutcome g vs tokens what None = HasNone g vs tokens what
IsOutcome g vs tokens what (Some (One ts)) = (t : Pattern) × (ts ≡ t ∷ []) × IsOnly g vs tokens what t
IsOutcome g vs tokens what (Some Several) = HasSeveral g vs tokens what
