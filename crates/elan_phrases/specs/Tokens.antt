-- Rules of the grammar that take one token. The value of a rule is a part of the outline.
use Rattle.std.specs.Prelude.{ℕ, Bool}
use Rattle.elan_forms.specs.Form.{Form, ◌>>=◌, ◌>>◌, token, pure, spanned}
use Rattle.elan_lexer.specs.Bytes.{value}
use Rattle.elan_phrases.specs.declared.span.Span.{Span}
use Rattle.elan_phrases.specs.declared.symbol.Symbol.{Symbol}
use Rattle.elan_phrases.specs.Symbols.{Seen, one, a, names, small_numbers, visibilities}

-- A rule of the grammar, with its value.
abbrev pub Rule : Type 0 → Type 1
Rule V = Form Seen V

-- one token that passes the test
abbrev pub taken : (Seen → Bool) → Rule (Unit {0})
taken p = token p >> pure tt

-- one token of this symbol
abbrev pub sign : Symbol → Rule (Unit {0})
sign s = taken (a (one s))

-- one token that passes the test; the value is its number
abbrev pub number_of : (Seen → Bool) → Rule ℕ
number_of p = spanned (λ first past. first) (token p)

-- the tokens from one number up to another
abbrev pub span : ℕ → ℕ → Span
span first past = record { first = first; past = past }

-- one token that passes the test, as a span
abbrev pub span_of : (Seen → Bool) → Rule Span
span_of p = spanned span (token p)

-- a number that is no greater than the greatest priority, with its value
abbrev pub small_number : Rule ℕ
small_number = token small_numbers >>= (λ t. pure (value t.text))

-- a word that is not reserved
unfoldable pub name : Rule (Unit {0})
name = taken (a names)

-- `global` or `local`
unfoldable pub visibility : Rule (Unit {0})
visibility = taken (a visibilities)
