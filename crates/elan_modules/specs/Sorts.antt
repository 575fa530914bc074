-- Sort expressions by their tokens, and the sorts that stand for the parameters in them.
use Rattle.std.specs.Prelude.{ℕ, suc, ◌+◌, ◌-◌, ◌==◌, Bool, false, ◌||◌, ◌&&◌, cond, List, [], ◌∷◌, ◌++◌, map, drop, slice_get, slice_range, Option, Some, None, codes}
use Rattle.std.specs.Str.{bytes_eq}
use Rattle.elan_text.specs.declared.name.Name.{Name}
use Rattle.elan_lexer.specs.declared.token.Token.{Token}
use Rattle.elan_text.specs.declared.refusal.Place.{Place}
use Rattle.elan_lexer.specs.Places.{first_place}
use Rattle.elan_lexer.specs.Text.{token_text}
use Rattle.elan_phrases.specs.declared.span.Span.{Span}
use Rattle.elan_phrases.specs.Tokens.{span}
use Rattle.elan_modules.specs.declared.flat.LoadedText.{LoadedText}

-- the bytes of a token, or none where there is no token
abbrev pub word_of : List ℕ → Option Token → List ℕ
word_of bytes None = []
word_of bytes (Some token) = token_text bytes token

-- the bytes of the token of a number
abbrev pub word_at : LoadedText → ℕ → List ℕ
word_at text number = word_of text.bytes (slice_get text.tokens number)

-- the place of a token, or that of the first byte where there is no token
abbrev pub place_or_first : Option Token → Place
place_or_first None = first_place
place_or_first (Some token) = token.at

-- the place of the token of a number
abbrev pub place_at : LoadedText → ℕ → Place
place_at text number = place_or_first (slice_get text.tokens number)

-- the bytes of each token of a span
abbrev pub words_in : LoadedText → Span → List (List ℕ)
words_in text at = map (token_text text.bytes) (slice_range text.tokens at.first at.past)

-- ---- parameters

-- the first word is `[`
abbrev pub opens : List (List ℕ) → Bool
opens [] = false
opens (word ∷ words) = bytes_eq word (codes "[")

-- the sort that stands for a word which is a parameter; another word stands for itself
unfoldable pub value_of : List Name → List Name → List ℕ → List ℕ
value_of [] sorts word = word
value_of (p ∷ ps) [] word = word
value_of (p ∷ ps) (s ∷ ss) word = cond (bytes_eq p.bytes word) s.bytes (value_of ps ss word)

-- what is written for a word: a parameter is replaced where it stands as a whole sort name, so that no bracket follows it
abbrev pub value_at : List Name → List Name → List ℕ → List (List ℕ) → List ℕ
value_at parameters sorts word words = cond (opens words) word (value_of parameters sorts word)

-- The written form of a sort expression, which is the bytes of its tokens with nothing between them, with its parameters
-- replaced.
unfoldable pub replaced : List Name → List Name → List (List ℕ) → List ℕ
replaced parameters sorts [] = []
replaced parameters sorts (word ∷ words) = value_at parameters sorts word words ++ replaced parameters sorts words

-- the written form of the sort expression of a span
abbrev pub written : LoadedText → List Name → List Name → Span → List ℕ
written text parameters sorts at = replaced parameters sorts (words_in text at)

-- how many names a written form has: one stands in front, and one behind each `[` and each `,`
unfoldable pub names_in : List ℕ → ℕ
names_in [] = 1
names_in (b ∷ bs) = cond (b == 91 || b == 44) (suc (names_in bs)) (names_in bs)

-- A sort expression has at most so many names.
abbrev pub most_names : ℕ
most_names = 64

-- how many `[` and `,` there are
unfoldable pub separators : List ℕ → ℕ
separators [] = 0
separators (b ∷ bs) = cond (b == 91 || b == 44) (suc (separators bs)) (separators bs)

-- ---- the arguments of a reference

-- Sort expressions stand from a token number on, with `,` between them, up to the `]` that closes them. The one in
-- which the next token stands began at the second number, and so many brackets of its own are open.
unfoldable pub arguments_from : ℕ → ℕ → ℕ → List (List ℕ) → List Span
arguments_from at first depth [] = []
arguments_from at first depth (word ∷ words) =
    cond (bytes_eq word (codes "[")) (arguments_from (at + 1) first (depth + 1) words)
    (cond (bytes_eq word (codes "]"))
    (cond (depth == 0) (span first at ∷ []) (arguments_from (at + 1) first (depth - 1) words))
    (cond (bytes_eq word (codes ",") && depth == 0) (span first at ∷ arguments_from (at + 1) (at + 1) 0 words)
    (arguments_from (at + 1) first depth words)))

-- the arguments of a reference, which begin behind its name and the `[`
abbrev pub argument_spans : LoadedText → Span → List Span
argument_spans text at = arguments_from (at.first + 2) (at.first + 2) 0 (drop 2 (words_in text at))
