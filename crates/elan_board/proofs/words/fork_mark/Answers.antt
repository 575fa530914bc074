use Rattle.std.proofs.Common.{rules, ◌≡◌, sym, ap, ◌∙◌, refl}
use native.Mathlib.Omega.{arith}
use Rattle.elan_board.proofs.Rules.{opens, loads_released, loads_cuts, adds, tells, forks}
use Rattle.elan_board.proofs.words.fork_mark.Goals as goal

pub split_seat-requires : goal.split_seat-requires
split_seat-requires c = (c.requires.0, (let e = c.requires.1 in omega (arith, e)), forks c.args.mark.now.id c.args.mark.now.me.0)
