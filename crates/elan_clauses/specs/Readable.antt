-- When the one reading of each run of a text may be asked for.
use Rattle.std.specs.Prelude.{map}
use Rattle.std.specs.List.{All}
use Rattle.elan_lexer.specs.Text.{IsInside}
use Rattle.elan_reading.specs.Lexemes.{lexeme_of, IsInRange}
use Rattle.elan_modules.specs.declared.flat.LoadedText.{LoadedText}

-- the tokens of a text lie inside it, and its numbers are below 9,223,372,036,854,775,808
pub record IsReadable (text : LoadedText) : Type 0 where
  pub inside : All (IsInside text.bytes) text.tokens
  pub in_range : All IsInRange (map (lexeme_of text.bytes) text.tokens)
