use Rattle.std.proofs.Common.{sym, ◌∙◌}
use Rattle.elan_modules.proofs.BeginLemmas.{not_found, begins_found, begins_loaded, begins_nameless}
use Rattle.elan_modules.proofs.NamedLemmas.{found_origin, origin_is}
use Rattle.elan_modules.proofs.begin.begin_text.Goals as goal

pub returns-in-Some-clause-walks : goal.returns-in-Some-clause-walks
returns-in-Some-clause-walks g c =
    let found = rw (c.texts.ensures, c.as_bytes.ensures) at c.in-Some.ensures in
    begins_found c.args.walk.now c.args.reference.now _ _ _ c.in-Some.spot found c.begin_found.ensures.stays

pub returns-then-is_name-clause-walks : goal.returns-then-is_name-clause-walks
returns-then-is_name-clause-walks g c =
    let found = rw (c.texts.ensures, c.as_bytes.ensures) at c.in-None.ensures in
    let named = sym c.is_name.ensures ∙ c.if-is_name.true in
    begins_loaded c.args.walk.now c.args.reference.now _ _ _ _ found (rw (c.as_bytes-in-None.ensures) at named) c.begin_loaded.ensures.walks

pub returns-else-is_name-clause-walks : goal.returns-else-is_name-clause-walks
returns-else-is_name-clause-walks g c =
    let found = rw (c.texts.ensures, c.as_bytes.ensures) at c.in-None.ensures in
    let named = sym c.is_name.ensures ∙ c.if-is_name.false in
    begins_nameless c.args.walk.now c.args.reference.now _ _ _ found (rw (c.as_bytes-in-None.ensures) at named) c.refused_at.ensures

pub returns-in-Some-clause-origin : goal.returns-in-Some-clause-origin
returns-in-Some-clause-origin g c =
    let found = rw (c.texts.ensures, c.as_bytes.ensures) at c.in-Some.ensures in
    origin_is c.args.walk.now.texts c.args.reference.now.name.bytes _ _ c.begin_found.ensures.origin
    (found_origin c.args.walk.now.texts c.args.reference.now.name.bytes c.in-Some.spot found)

pub begin_loaded-requires-clause-absent : goal.begin_loaded-requires-clause-absent
begin_loaded-requires-clause-absent g c =
    not_found _ _ (rw (c.texts.ensures, c.as_bytes.ensures) at c.in-None.ensures)
