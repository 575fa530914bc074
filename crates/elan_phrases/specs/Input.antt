-- What a reader has left, and what a function that reads ensures.
use Rattle.std.specs.Prelude.{◌≡◌, ◌+◌, ◌<◌, ◌^◌, ℕ, List, [], ◌∷◌, Bool, true, false, not, length, map, Result, Ok, Err}
use Rattle.elan_forms.specs.declared.why.Why.{Why}
use Rattle.elan_forms.specs.declared.why.Why.TheVariants.{Unexpected}
use Rattle.elan_forms.specs.Whole.{done, refused}
use Rattle.elan_forms.specs.Form.{Form, begins_with}
use Rattle.elan_phrases.specs.declared.halt.Halt.{Halt}
use Rattle.elan_phrases.specs.declared.halt.Halt.TheVariants.{Misfit, NoMemory}
use Rattle.elan_phrases.specs.declared.reader.Reader.TheInside.{Inside}
use Rattle.elan_phrases.specs.declared.symbol.Lexeme.{Lexeme}
use Rattle.elan_phrases.specs.Symbols.{Seen}

-- the number of the next token, and the tokens from it on
pub record Input : Type 0 where
  pub at : ℕ
  pub rest : List Seen

-- tokens with their symbols, as the grammar sees them
abbrev pub seen_of : List Lexeme → List Seen
seen_of = map (λ l. record { symbol = l.symbol; text = l.text.now })

-- what a reader shows
abbrev pub input_of : Inside → Input
input_of r = record { at = r.at; rest = seen_of r.rest.now }

-- token numbers do not run out
abbrev pub IsShort : Inside → Type 0
IsShort r = r.at + length r.rest.now < 2 ^ 32

-- the tokens are why reading stopped
abbrev pub is_misfit : Halt → Bool
is_misfit (Misfit why) = true
is_misfit NoMemory = false

-- why the tokens are refused, where they are
abbrev pub why_of : Halt → Why
why_of (Misfit why) = why
why_of NoMemory = Unexpected

-- A function reads as a form does: its value and where it stops, or the token at which it refuses. Nothing is said of
-- what it reads where memory was wanted.
abbrev pub Reads : {V : Type 0} → Form Seen V → Input → Result V Halt → Input → Type 0
Reads form old (Ok v) new = form.read old.at old.rest ≡ done v new.at new.rest
Reads form old (Err halt) new = is_misfit halt ≡ true → form.read old.at old.rest ≡ refused (why_of halt) new.rest

-- the next token passes the test
abbrev pub sees : (Seen → Bool) → Input → Bool
sees p i = begins_with p i.rest

-- the bytes of the next token, or none where no token is left
abbrev pub next_text : List Seen → List ℕ
next_text [] = []
next_text (t ∷ ts) = t.text

-- no token is left
abbrev pub is_at_end : Input → Bool
is_at_end i = not (begins_with (λ t. true) i.rest)
