use Rattle.std.proofs.lemmas.Result.{on_ok_weaker}
use Rattle.elan_print.proofs.Ascii.{text_behind}
use Rattle.elan_print.proofs.reports.term_behind.Goals as goal

pub returns : goal.returns
returns c = on_ok_weaker c.term_onto.result (λ is. text_behind c.args.signature.now c.args.term.now c.args.page.now.text.items c.term_onto.new.page.text.items c.term_onto.new.page.tight is) c.term_onto.ensures
