-- What a reading is as a pattern: its sort, and the variables that it may have.
use Rattle.std.specs.Prelude.{◌≡◌, ℕ, Some}
use Rattle.elan_terms.specs.declared.tree.SortId.{SortId}
use Rattle.elan_terms.specs.declared.tree.Pattern.{Pattern}
use Rattle.elan_program.specs.declared.signature.Signature.{Signature}
use Rattle.elan_program.specs.Signature.{shapes_of}
use Rattle.elan_program.specs.Patterns.{pattern_sort}
use Rattle.elan_reading.specs.declared.lexeme.Variable.{Variable}
use Rattle.elan_reading.specs.declared.sought.Sought.{Sought}
use Rattle.elan_reading.specs.declared.sought.Sought.TheVariants as sought

-- a declared variable as it stands in a tree: its number and its sort
abbrev pub as_numbered : Variable → ℕ × SortId
as_numbered v = (v.number, v.sort)

-- a tree is a valid pattern of the sort that is sought; where any is, of some sort
abbrev pub IsOfSought : Signature → Sought → Pattern → Type 0
IsOfSought g (sought.Sort s) t = pattern_sort (shapes_of g) t ≡ Some s
IsOfSought g sought.Any t = (s : SortId) × (pattern_sort (shapes_of g) t ≡ Some s)
