use Rattle.elan_lexer.proofs.SpanLemmas.{has_spans, spans_fit}
use Rattle.elan_lexer.proofs.laws.tokens_are_spans.Goals as goal

pub returns : goal.returns
returns c = λ bytes found. (has_spans bytes found, spans_fit bytes found)
