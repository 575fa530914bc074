use Rattle.std.proofs.Common.{refl}
use Rattle.elan_phrases.specs.Symbols.{word_symbol, reserved_words, strategy_words, placed_words}
use Rattle.elan_phrases.proofs.symbol.word_symbol.Goals as goal

pub returns : goal.returns
unfolding word_symbol reserved_words strategy_words placed_words
returns c = rw (c.look_up.ensures, c.look_up-symbol-2.ensures, c.look_up-symbol.ensures) refl
