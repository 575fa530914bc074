use Rattle.std.proofs.Common.{ap, ◌∙◌, ◌++◌, append_assoc}
use Rattle.std.specs.Prelude.{codes}
use Rattle.elan_print.specs.Terms.{term_text}
use Rattle.elan_print.proofs.reports.result_onto.Goals as goal

pub returns : goal.returns
returns c =
    c.in_ok-term_behind.ensures ∙ ap (λ l. l ++ term_text c.args.signature.now c.args.term.now) c.in_ok-extend_from_slice.ensures.items
    ∙ append_assoc c.args.page.now.text.items (codes "result term: ") (term_text c.args.signature.now c.args.term.now)
