-- What a text is read as. Over a sound signature each text has one reading, none or several: which of these it has, the
-- law that says so tells.
use Rattle.std.proofs.Common.{inl, inr}
use Rattle.std.specs.Prelude.{◌≡◌, refl, ◌⊎◌, ℕ, Bool, true, false, if◌then◌else◌, nat_lt, Result, Ok, Err, List, length, map}
use Rattle.elan_text.specs.declared.refusal.Code.{Code}
use Rattle.elan_text.specs.declared.refusal.Code.TheVariants.{E15, E16, E17}
use Rattle.elan_lexer.specs.declared.token.Token.{Token}
use Rattle.elan_terms.specs.declared.tree.Pattern.{Pattern}
use Rattle.elan_program.specs.declared.signature.Signature.{Signature}
use Rattle.elan_program.specs.Soundness.{is_sound}
use Rattle.elan_reading.specs.declared.lexeme.Lexeme.{Lexeme}
use Rattle.elan_reading.specs.declared.lexeme.Variable.{Variable}
use Rattle.elan_reading.specs.declared.sought.Sought.{Sought}
use Rattle.elan_reading.specs.Lexemes.{lexeme_of}
use Rattle.elan_reading.specs.Answers.{most_tokens, IsOnly, HasNone, HasSeveral}
use Rattle.elan_chart.proofs.LawLemmas.{some_answer}

module _ (g : Signature) (variables : List Variable) (what : Sought) where
  -- the one reading, or why there is not one
  abbrev pub told : (tokens : List Lexeme)
      → ((t : Pattern) × IsOnly g variables tokens what t) ⊎ (HasNone g variables tokens what ⊎ HasSeveral g variables tokens what)
      → Result Pattern Code
  told tokens (inl one) = Ok one.0
  told tokens (inr (inl none)) = Err E15
  told tokens (inr (inr several)) = Err E16

  -- the same where it is known whether the signature is sound; a text over one that is not has no reading
  abbrev pub told_if : (tokens : List Lexeme) (sound : Bool) → is_sound g ≡ sound → Result Pattern Code
  told_if tokens true is = told tokens (some_answer g variables tokens what is)
  told_if tokens false is = Err E15

  -- what these tokens are read as; more than 256 are not read
  abbrev pub tokens_as : List Lexeme → Result Pattern Code
  tokens_as tokens = if nat_lt most_tokens (length tokens) then Err E17 else told_if tokens (is_sound g) refl

-- what the tokens of a text are read as
unfoldable pub read_as : Signature → List Variable → Sought → List ℕ → List Token → Result Pattern Code
read_as g variables what bytes tokens = tokens_as g variables what (map (lexeme_of bytes) tokens)
