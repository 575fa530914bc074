use Rattle.std.proofs.Common.{rules, ◌≡◌, sym, ap, ◌∙◌, refl}
use native.Mathlib.Omega.{arith}
use Rattle.elan_board.proofs.Rules.{opens, loads_released, loads_cuts, adds, tells, forks}
use Rattle.elan_board.proofs.words.load_released.Goals as goal

pub load-requires : goal.load-requires
load-requires c = (c.requires.0, (let e = c.requires.1 in omega (arith, e)), loads_released c.args.words.now.shared.table_id.slots c.args.mark.now.id c.args.mark.now.me)
