-- What a text is read as: one tree, none, or several; of a sort that is sought, or of any.
use Rattle.std.specs.Prelude.{◌≡◌, ◌≢◌, ◌<◌, ◌≤◌, ℕ, Bool, false, Option, None, Some, List, length, slice_get}
use Rattle.elan_terms.specs.declared.tree.SortId.{SortId}
use Rattle.elan_terms.specs.declared.tree.OpId.{OpId}
use Rattle.elan_terms.specs.declared.tree.Pattern.{Pattern}
use Rattle.elan_program.specs.declared.signature.Operator.{Operator}
use Rattle.elan_program.specs.declared.signature.Signature.{Signature}
use Rattle.elan_program.specs.Extension.{head_op}
use Rattle.elan_reading.specs.declared.lexeme.Lexeme.{Lexeme}
use Rattle.elan_reading.specs.declared.lexeme.Variable.{Variable}
use Rattle.elan_reading.specs.declared.sought.Sought.{Sought}
use Rattle.elan_reading.specs.declared.sought.Sought.TheVariants as sought
use Rattle.elan_reading.specs.declared.sought.ReadingRefusal.{ReadingRefusal}
use Rattle.elan_reading.specs.declared.sought.ReadingRefusal.TheVariants as refusal
use Rattle.elan_reading.specs.Edge.{is_injection}
use Rattle.elan_reading.specs.Readings.{Reads}

-- how many tokens a text may have to be read
abbrev pub most_tokens : ℕ
most_tokens = 256

-- whether there is an operator, and it is an injection
abbrev pub is_injection_of : Option Operator → Bool
is_injection_of None = false
is_injection_of (Some o) = is_injection o

-- whether the operator with this number, if there is a number, is an injection
abbrev pub is_injection_at : Signature → Option OpId → Bool
is_injection_at g None = false
is_injection_at g (Some op) = is_injection_of (slice_get g.operators op.0)

-- whether the outermost node of a tree is an injection
abbrev pub is_injected : Signature → Pattern → Bool
is_injected g t = is_injection_at g (head_op t)

module _ (g : Signature) (variables : List Variable) (tokens : List Lexeme) where
  -- A tree is a reading of the whole text: at the sort that is sought; or, where any is, at some sort with no injection
  -- outermost.
  abbrev pub IsReading : Sought → Pattern → Type 0
  IsReading (sought.Sort s) t = (grouped : Bool) × Reads g variables s tokens t grouped
  IsReading sought.Any t = (s : SortId) × (grouped : Bool) × Reads g variables s tokens t grouped × (is_injected g t ≡ false)

  -- a tree is the one reading
  abbrev pub IsOnly : Sought → Pattern → Type 0
  IsOnly what t = IsReading what t × ((u : Pattern) → IsReading what u → u ≡ t)

  -- there is no reading
  abbrev pub HasNone : Sought → Type 0
  HasNone what = (u : Pattern) → IsReading what u → ⊥

  -- there are two readings with different trees
  abbrev pub HasSeveral : Sought → Type 0
  HasSeveral what = (t : Pattern) × (u : Pattern) × IsReading what t × IsReading what u × (t ≢ u)

  -- Why there is not one reading: a text of more than 256 tokens is too long, whatever its readings; a shorter one has no
  -- reading or several; want of memory may come at a text that is not too long.
  abbrev pub IsRefused : Sought → ReadingRefusal → Type 0
  IsRefused what refusal.None = (length tokens ≤ most_tokens) × HasNone what
  IsRefused what refusal.Several = (length tokens ≤ most_tokens) × HasSeveral what
  IsRefused what refusal.TooLong = most_tokens < length tokens
  IsRefused what refusal.NoMemory = length tokens ≤ most_tokens
