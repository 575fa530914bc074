use Rattle.std.proofs.Common.{option_map}
use Rattle.elan_table.specs.Rows.{terms}
use Rattle.elan_shares.proofs.ChoiceLemmas.{longer_found}
use Rattle.elan_shares.proofs.choice.longer.Goals as goal

pub returns-in_ok-found-in-Some : goal.returns-in_ok-found-in-Some
returns-in_ok-found-in-Some g c = longer_found c.args.places.now c.args.count (terms c.args.rows.now) c.args.past c.in-Some.many (option_map terms c.in_ok-found-in-Some.found)
    (c.in-Some.ensures {u = tt}) (c.in_ok-found-in-Some.ensures {u = tt}).value ((c.in_ok-found-in-Some.ensures {u = tt}).least c.requires.ascend)
