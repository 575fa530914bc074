use Rattle.std.proofs.Common.{rules, ◌≡◌, sym, ap, ◌∙◌, refl}
use native.Mathlib.Omega.{arith}
use Rattle.elan_board.proofs.Rules.{opens, loads_released, loads_cuts, adds, tells, forks}
use Rattle.elan_board.proofs.words.open.Goals as goal

pub of_words-requires : goal.of_words-requires
of_words-requires c = opens
