use Rattle.std.proofs.Common.{option_map}
use Rattle.elan_table.specs.Rows.{terms}
use Rattle.elan_shares.proofs.ChoiceLemmas.{int_floor, lower_floor, same_floor, higher_floor}
use Rattle.elan_shares.proofs.choice.past_floor.Goals as goal

pub returns-in_ok-found-in-Int : goal.returns-in_ok-found-in-Int
returns-in_ok-found-in-Int g c = int_floor c.args.places.now c.args.count (terms c.args.rows.now) c.args.op c.args.floor.now c.in-Int.field-0 (option_map terms c.in_ok-found-in-Int.found)
    (c.in-Int.ensures {u = tt}) (c.in_ok-found-in-Int.ensures {u = tt})

pub returns-in_ok-found-in-Less : goal.returns-in_ok-found-in-Less
returns-in_ok-found-in-Less g c = lower_floor c.args.places.now c.args.count (terms c.args.rows.now) c.args.op c.args.floor.now c.in-App.f (terms c.in-App.past.now) (c.in-App.ensures {u = tt})
    (option_map terms c.in_ok-found-in-Less.found) (c.in-Less.ensures {u = tt}) (c.in_ok-found-in-Less.ensures {u = tt})

pub returns-in_ok-found-in-Equal : goal.returns-in_ok-found-in-Equal
returns-in_ok-found-in-Equal g c = same_floor c.args.places.now c.args.count (terms c.args.rows.now) c.args.op c.args.floor.now c.in-App.f (terms c.in-App.past.now) (c.in-App.ensures {u = tt})
    g.N.Name.shapes (option_map terms c.in_ok-found-in-Equal.found) (c.in-Equal.ensures {u = tt}) c.requires.ac c.known.ensures.valid (c.in_ok-found-in-Equal.ensures {u = tt})

pub returns-in-Greater : goal.returns-in-Greater
returns-in-Greater g c = higher_floor c.args.places.now c.args.count (terms c.args.rows.now) c.args.op c.args.floor.now c.in-App.f (terms c.in-App.past.now) (c.in-App.ensures {u = tt})
    (c.in-Greater.ensures {u = tt})
