use Rattle.elan_lexer.proofs.Answered.{apart, fits_once, refuses_once}
use Rattle.elan_lexer.proofs.laws.one_answer.Goals as goal

pub returns-clause-apart : goal.returns-clause-apart
returns-clause-apart c = apart

pub returns-clause-tokens : goal.returns-clause-tokens
returns-clause-tokens c = fits_once

pub returns-clause-refusal : goal.returns-clause-refusal
returns-clause-refusal c = refuses_once
