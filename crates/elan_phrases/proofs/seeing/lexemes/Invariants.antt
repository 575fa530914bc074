use Rattle.std.proofs.Common.{◌≡◌, ◌++◌, length, drop}
use Rattle.elan_phrases.specs.Input.{seen_of}
use Rattle.elan_phrases.specs.Symbols.{seen}
use Rattle.elan_phrases.proofs.seeing.lexemes.Given as goal

-- what is found and what is left are all tokens
abbrev pub invariant-tokens : goal.invariant-tokens
invariant-tokens l = record {
  all_tokens : seen_of l.found.items ++ seen l.bytes (drop l.token-index l.tokens) ≡ seen l.bytes l.tokens;
  count : length l.found.items ≡ l.token-index;
}
