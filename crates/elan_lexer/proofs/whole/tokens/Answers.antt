use Rattle.std.proofs.lemmas.Result.{IfOk-weaker, IfErr-weaker}
use Rattle.elan_lexer.proofs.Answered.{fits, only_one, meets_refusal}
use Rattle.elan_lexer.proofs.Inside.{inside, count}
use Rattle.elan_lexer.proofs.whole.tokens.Goals as goal

pub returns-clause-found : goal.returns-clause-found
returns-clause-found c = IfOk-weaker c.all.result _ _ (λ v e. fits c.args.bytes.now v.items e) c.all.ensures.found

pub returns-clause-only : goal.returns-clause-only
returns-clause-only c = IfOk-weaker c.all.result _ _ (λ v e. only_one c.args.bytes.now v.items e) c.all.ensures.found

pub returns-clause-within : goal.returns-clause-within
returns-clause-within c =
    IfOk-weaker c.all.result _ _
    (λ v e. inside c.args.bytes.now v.items (fits c.args.bytes.now v.items e)) c.all.ensures.found

pub returns-clause-count : goal.returns-clause-count
returns-clause-count c =
    IfOk-weaker c.all.result _ _
    (λ v e. count c.args.bytes.now v.items (fits c.args.bytes.now v.items e)) c.all.ensures.found

pub returns-clause-refused : goal.returns-clause-refused
returns-clause-refused c =
    IfErr-weaker c.all.result _ _ (λ e m. meets_refusal c.args.bytes.now e m) c.all.ensures.refused
