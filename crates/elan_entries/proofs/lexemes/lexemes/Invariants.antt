use Rattle.std.proofs.Common.{◌≡◌, ◌++◌, map, drop}
use Rattle.elan_reading.specs.Lexemes.{lexeme_of}
use Rattle.elan_entries.proofs.lexemes.lexemes.Given as goal

abbrev pub invariant-loop-token : goal.invariant-loop-token
invariant-loop-token l = l.found ++ map (lexeme_of l.bytes) (drop l.token-index l.tokens) ≡ map (lexeme_of l.bytes) l.tokens
