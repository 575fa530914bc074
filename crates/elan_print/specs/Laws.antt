-- What is read of a printed term.
use Rattle.std.specs.Prelude.{◌≡◌, ℕ, List, map, false}
use Rattle.elan_lexer.specs.declared.token.Token.{Token}
use Rattle.elan_lexer.specs.Text.{Fits}
use Rattle.elan_terms.specs.declared.tree.SortId.{SortId}
use Rattle.elan_terms.specs.declared.tree.Term.{Term}
use Rattle.elan_terms.specs.Term.{canon}
use Rattle.elan_program.specs.declared.signature.Signature.{Signature}
use Rattle.elan_program.specs.Signature.{shapes_of}
use Rattle.elan_meaning.specs.Meaning.{pattern_of}
use Rattle.elan_reading.specs.declared.lexeme.Lexeme.{Lexeme}
use Rattle.elan_reading.specs.declared.lexeme.Variable.{Variable}
use Rattle.elan_reading.specs.Lexemes.{lexeme_of}
use Rattle.elan_reading.specs.Readings.{Reads}

-- A run has, among these variables and at this sort, a reading that is the pattern of a term whose canonical form is the
-- given term.
abbrev pub ReadsAs : Signature → List Variable → SortId → List Lexeme → Term → Type 0
ReadsAs g variables s run t = (u : Term) × Reads g variables s run (pattern_of u) false × (canon (shapes_of g) u ≡ t)

-- the tokens of these bytes are this run
abbrev pub IsCutInto : List ℕ → List Lexeme → Type 0
IsCutInto bytes run = (found : List Token) × Fits bytes found × (map (lexeme_of bytes) found ≡ run)
