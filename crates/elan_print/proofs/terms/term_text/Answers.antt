use Rattle.std.proofs.Common.{◌≡◌, ap, ◌∙◌, sym, subst, true}
use Rattle.std.specs.Str.{IsAscii}
use Rattle.std.proofs.lemmas.Str.{IsUtf8-from_ascii}
use Rattle.elan_terms.proofs.Sorting.{not_true}
use Rattle.elan_print.specs.Terms.{term_text}
use Rattle.elan_print.specs.Pages.{sheet}
use Rattle.elan_print.proofs.Ascii.{text_ascii, whole_text}
use Rattle.elan_print.proofs.terms.term_text.Goals as goal

pub unreachable-requires : goal.unreachable-requires
unreachable-requires c =
    let is : c.term_onto.new.page.text.items ≡ term_text c.args.signature.now c.args.term.now
    = whole_text c.args.signature.now c.args.term.now (sheet c.term_onto.new.page) (record { text = c.new.result.items; tight = true }) (ap (λ l. record { text = l; tight = true }) c.new.ensures.items) c.in_ok-term_onto.ensures in
    not_true (sym (c.in-Err.ensures.succeeds (IsUtf8-from_ascii c.term_onto.new.page.text.items (subst IsAscii (sym is) (text_ascii c.args.signature.now c.args.term.now c.requires.sound c.requires.valid)))))

pub returns : goal.returns
returns c =
    ap (λ v. v.items) c.in-Ok.ensures.ok
    ∙ whole_text c.args.signature.now c.args.term.now (sheet c.term_onto.new.page) (record { text = c.new.result.items; tight = true }) (ap (λ l. record { text = l; tight = true }) c.new.ensures.items) c.in_ok-term_onto.ensures
