use Rattle.std.proofs.Common.{◌<◌, ◌^◌, Err, arith}
use Rattle.std.specs.Str.Parse.{digits_value}
use Rattle.std.proofs.lemmas.Str.Parse.{parse_digits}
use Rattle.elan_cli.proofs.TextLemmas.{digits, past_range, with_digits}
use Rattle.elan_cli.proofs.number.in_range.Goals as goal

pub returns-in_default-3 : goal.returns-in_default-3
returns-in_default-3 c =
    let bs = c.args.digits.now in
    let most = c.args.most in
    let numeral = with_digits bs c.requires in
    let fails = parse_digits digits 32 bs (Err c.in_default.field-0) c.in_default.ensures.value.0 numeral.1 in
    let past : digits_value 10 bs < 2 ^ 32 → ⊥ = λ lt. fails (numeral.0, lt) in
    past_range bs most (omega arith)
