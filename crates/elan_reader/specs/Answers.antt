-- The one answer to a text: the tree that it is read as, or a code that says why there is not one.
use Rattle.std.specs.Prelude.{◌≡◌, ◌<◌, ◌≤◌, ◌⊎◌, Result, Ok, Err, List, length}
use Rattle.elan_text.specs.declared.refusal.Code.{Code}
use Rattle.elan_text.specs.declared.refusal.Code.TheVariants.{E15, E16, E17}
use Rattle.elan_terms.specs.declared.tree.Pattern.{Pattern}
use Rattle.elan_program.specs.declared.signature.Signature.{Signature}
use Rattle.elan_reading.specs.declared.lexeme.Lexeme.{Lexeme}
use Rattle.elan_reading.specs.declared.lexeme.Variable.{Variable}
use Rattle.elan_reading.specs.declared.sought.Sought.{Sought}
use Rattle.elan_reading.specs.Answers.{most_tokens, IsOnly, HasNone, HasSeveral}

module _ (g : Signature) (variables : List Variable) (tokens : List Lexeme) (what : Sought) where
  -- Why a text is not read: E15 where there is no reading, E16 where two differ; and E17, whatever its readings, where it
  -- has more than 256 tokens.
  abbrev pub IsCause : Code → Type 0
  IsCause code =
      ((code ≡ E15) × (length tokens ≤ most_tokens) × HasNone g variables tokens what)
      ⊎ (((code ≡ E16) × (length tokens ≤ most_tokens) × HasSeveral g variables tokens what)
      ⊎ ((code ≡ E17) × (most_tokens < length tokens)))

  -- a text of at most 256 tokens with one reading is read as its tree, and each other text is refused
  abbrev pub IsAnswer : Result Pattern Code → Type 0
  IsAnswer (Ok t) = (length tokens ≤ most_tokens) × IsOnly g variables tokens what t
  IsAnswer (Err code) = IsCause code
