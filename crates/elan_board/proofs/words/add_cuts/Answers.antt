use Rattle.std.proofs.Common.{rules, ◌≡◌, sym, ap, ◌∙◌, refl}
use native.Mathlib.Omega.{arith}
use Rattle.elan_board.proofs.Rules.{opens, loads_released, loads_cuts, adds, tells, forks}
use Rattle.elan_board.proofs.words.add_cuts.Goals as goal

pub fetch_add-requires : goal.fetch_add-requires
fetch_add-requires c = (c.requires.0, (let e = c.requires.1 in omega (arith, e)), adds c.args.words.now.shared.table_id.slots c.args.mark.now.id c.args.count c.args.mark.now.me)
