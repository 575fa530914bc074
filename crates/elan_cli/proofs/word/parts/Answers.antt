use Rattle.std.proofs.Common.{◌≡◌, None, arith, false, sym, refl}
use Rattle.std.specs.List.{list_any}
use Rattle.std.proofs.lemmas.Str.Pattern.{split_parts}
use Rattle.elan_cli.specs.Words.{is_equals}
use Rattle.elan_cli.proofs.TextLemmas.{no_equals}
use Rattle.elan_cli.proofs.word.parts.Goals as goal

pub returns-in-None-clause-value : goal.returns-in-None-clause-value
returns-in-None-clause-value c =
    let lacks = split_parts 61 c.args.word.now None c.in-None.ensures.cases (omega arith) in
    let e : list_any is_equals c.args.word.now ≡ false = no_equals c.args.word.now lacks in
    sym (rw e refl)
