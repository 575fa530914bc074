-- Texts: terms and patterns that are not read yet.
use Rattle.elan_forms.specs.Form.{◌>>◌, loop, spanned}
use Rattle.elan_phrases.specs.declared.span.Span.{Span}
use Rattle.elan_phrases.specs.Symbols.{a, in_text}
use Rattle.elan_phrases.specs.Tokens.{Rule, taken, span}

-- a token of a text
unfoldable pub text_token : Rule (Unit {0})
text_token = taken (a in_text)

-- { text token }
unfoldable pub more_text : Rule (Unit {0})
more_text = loop (λ _. a in_text) (λ _. text_token) tt

-- one or more tokens of a text
unfoldable pub text : Rule Span
text = spanned span (text_token >> more_text)
