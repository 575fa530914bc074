use Rattle.std.proofs.Common.{arith}
use Rattle.elan_fits.proofs.LookLemmas.{look-var, last-apart}
use Rattle.elan_fits.proofs.look.Prefix.+look.Goals as goal

pub look-returns-in_ok-look-in-Var : goal.look-returns-in_ok-look-in-Var
look-returns-in_ok-look-in-Var t c = look-var c.args.self.now c.args.pattern.now c.args.term.now _ _ _ c.in-Var.is c.in_ok-look-in-Var.ensures

pub look_last-look_one-requires : goal.look_last-look_one-requires
look_last-look_one-requires t c = (omega arith, last-apart c.args.self.now c.args.op _ _ _ c.in-App.is c.if-op-f.false)
