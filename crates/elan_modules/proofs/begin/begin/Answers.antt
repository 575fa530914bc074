use Rattle.std.proofs.Common.{sym, ◌∙◌}
use Rattle.elan_modules.proofs.BeginLemmas.{begins_built, begins_text}
use Rattle.elan_modules.proofs.begin.begin.Goals as goal

pub returns-in-Some-clause-walks : goal.returns-in-Some-clause-walks
returns-in-Some-clause-walks g c =
    let standard = rw (c.as_bytes.ensures) at (sym c.standard_of.ensures ∙ c.in-Some.is) in
    begins_built c.args.walk.now c.args.reference.now _ _ _ c.in-Some.standard standard c.begin_standard.ensures.stays

pub returns-in-None-clause-walks : goal.returns-in-None-clause-walks
returns-in-None-clause-walks g c =
    let none = rw (c.as_bytes.ensures) at (sym c.standard_of.ensures ∙ c.in-None.is) in
    begins_text c.args.walk.now c.args.reference.now _ _ _ _ none c.begin_text.ensures.walks
