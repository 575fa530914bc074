use Rattle.std.proofs.Common.{◌∙◌, sym, ap}
use Rattle.elan_program.specs.declared.signature.Signature.{Signature}
use Rattle.elan_signature.proofs.BuiltLemmas.{built_sorts}
use Rattle.elan_signature.proofs.entry.signature.Goals as goal

pub finished-requires-clause-sorts : goal.finished-requires-clause-sorts
finished-requires-clause-sorts c =
    c.in_ok-sorts.ensures ∙ sym (built_sorts c.args.flat.now) ∙ sym (ap (λ (g : Signature). g.sorts) c.in_ok-built.ensures)
