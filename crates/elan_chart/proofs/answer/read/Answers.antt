use Rattle.std.proofs.Common.{◌≡◌, ◌≤◌, None, map, length, arith}
use Rattle.std.proofs.lemmas.Result.{IfErr-weaker}
use Rattle.elan_reading.specs.Lexemes.{lexeme_of}
use Rattle.elan_chart.specs.Chart.{rows, scope_of}
use Rattle.elan_chart.specs.Answer.{all_sought, longest, Refuses}
use Rattle.elan_reading.specs.Answers.{IsRefused}
use Rattle.elan_chart.proofs.AnswerLemmas.{read_refused, short_map}
use Rattle.elan_chart.proofs.answer.read.Goals as goal

pub returns-clause-refused : goal.returns-clause-refused
returns-clause-refused c =
    let short : length c.args.tokens.now ≤ 256 = omega arith in
    let collected : c.in_ok-found.found ≡ all_sought c.args.sought None (longest (rows (scope_of c.args.signature.now c.args.variables.now (map (lexeme_of c.args.bytes.now) c.args.tokens.now)) None (map (lexeme_of c.args.bytes.now) c.args.tokens.now))) =
    grind (arith, c.in_ok-found.ensures) in
    IfErr-weaker c.only.result (λ e. Refuses c.in_ok-found.found e)
    (λ e. IsRefused c.args.signature.now c.args.variables.now (map (lexeme_of c.args.bytes.now) c.args.tokens.now) c.args.sought e)
    (λ e r. read_refused c.args.signature.now c.requires.sound c.args.variables.now (map (lexeme_of c.args.bytes.now) c.args.tokens.now) c.args.sought
    c.in_ok-found.found e (short_map (lexeme_of c.args.bytes.now) c.args.tokens.now short) collected r)
    c.only.ensures.refused
