use Rattle.std.proofs.Common.{◌≡◌, ap}
use Rattle.elan_modules.proofs.FlatLemmas.{is_flat}
use Rattle.elan_modules.proofs.entry.flat_of.Goals as goal

pub returns-clause-flat : goal.returns-clause-flat
returns-clause-flat c = λ stream first is.
    let texts : c.into_parts-texts.result.0 ≡ c.args.walk.texts = ap (λ p. p.0) c.into_parts-texts.ensures.parts in
    let done : c.into_parts-texts.result.1 ≡ c.args.walk.done = ap (λ p. p.1) c.into_parts-texts.ensures.parts in
    let whole = is_flat c.args.lpl c.args.query c.args.walk c.into_parts-texts.ensures.loaded
    c.into_parts-texts.ensures.origins stream first is in
    record { texts = rw texts whole.texts; origins = rw (texts, done) whole.origins }
