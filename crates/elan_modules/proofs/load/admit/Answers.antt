use Rattle.std.proofs.Common.{◌≡◌, ◌+◌, nat_lt, false, length, arith}
use Rattle.elan_modules.specs.Visits.{most_bytes, total}
use Rattle.elan_modules.proofs.LoadLemmas.{name_unreserved, admits}
use Rattle.elan_modules.proofs.load.admit.Goals as goal

pub open-requires-clause-unreserved : goal.open-requires-clause-unreserved
open-requires-clause-unreserved c = name_unreserved _ c.requires

pub returns-clause-stays : goal.returns-clause-stays
returns-clause-stays c =
    let short : nat_lt most_bytes (total c.args.walk.now.texts + length c.args.bytes.items) ≡ false =
    grind (arith, c.is_past.ensures, c.if-is_past.false, c.texts.ensures, c.len.ensures) in
    admits c.args.walk.now _ _ _ short c.open.ensures.opens
