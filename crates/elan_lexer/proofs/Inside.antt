-- The tokens of a text lie inside it.
use Rattle.std.proofs.Common.{◌≡◌, ℕ, ◌+◌, ◌≤◌, ◌<◌, List, [], ◌∷◌, length, Option, Some, None, sym, ap, subst, ◌∙◌, arith}
use Rattle.std.specs.List.{All}
use Rattle.std.proofs.lemmas.List.{length-append}
use Rattle.std.proofs.lemmas.List.Elements.{All-nil, All-cons, All-append, All-weaker}
use Rattle.elan_lexer.specs.declared.token.Kind.{Kind}
use Rattle.elan_lexer.specs.declared.token.Token.{Token}
use Rattle.elan_lexer.specs.declared.places.Spot.{Spot}
use Rattle.elan_lexer.specs.Places.{start, moved}
use Rattle.elan_lexer.specs.Text.{Piece, Spells, token_of, tokens_of, Fits, IsInside}
use Rattle.elan_lexer.proofs.Texts.{some_byte}

-- a token has a byte at least, and ends there or before
abbrev pub EndsBy : ℕ → Token → Type 0
EndsBy n t = (t.start < t.end) × (t.end ≤ n)

one_by : (k : Option Kind) (s : Spot) (text : List ℕ) (n : ℕ) → 0 < length text → s.offset + length text ≤ n →
    All (EndsBy n) (token_of k s (moved s text))
one_by None s text n lt le = All-nil (EndsBy n)
one_by (Some k) s text n lt le =
    All-cons (EndsBy n) (record { kind = k; start = s.offset; «end» = s.offset + length text; at = s.at }) []
    (omega arith, le) (All-nil (EndsBy n))

tokens_by : (s : Spot) (ps : List Piece) (bytes : List ℕ) → Spells ps bytes [] →
    All (EndsBy (s.offset + length bytes)) (tokens_of s ps)
tokens_by s [] bytes h = All-nil (EndsBy (s.offset + length bytes))
tokens_by s (p ∷ ps) bytes (after, h, more, e) =
    let whole : length bytes ≡ length p.text + length after = ap length e ∙ length-append p.text after in
    let next = moved s p.text in
    All-append (EndsBy (s.offset + length bytes)) (token_of p.kind s next) (tokens_of next ps)
    (one_by p.kind s p.text (s.offset + length bytes) (some_byte p.kind p.text after h) (omega arith))
    (All-weaker (EndsBy (s.offset + length p.text + length after)) (EndsBy (s.offset + length bytes))
    (λ t (x, y). (x, omega (arith, y)))
    (tokens_of next ps) (tokens_by next ps after more))

pub inside : (bytes : List ℕ) (found : List Token) → Fits bytes found → All (λ t. IsInside bytes t) found
inside bytes found (ps, h, e) =
    subst (λ ts. All (λ t. IsInside bytes t) ts) (sym e)
    (All-weaker (EndsBy (0 + length bytes)) (λ t. IsInside bytes t) (λ t (x, y). (x, omega (arith, y)))
    (tokens_of start ps) (tokens_by start ps bytes h))

one_at_most : (k : Option Kind) (s t : Spot) → length (token_of k s t) ≤ 1
one_at_most None s t = omega arith
one_at_most (Some k) s t = omega arith

as_many : (s : Spot) (ps : List Piece) (bytes : List ℕ) → Spells ps bytes [] → length (tokens_of s ps) ≤ length bytes
as_many s [] bytes h = omega arith
as_many s (p ∷ ps) bytes (after, h, more, e) =
    let whole : length bytes ≡ length p.text + length after = ap length e ∙ length-append p.text after in
    let next = moved s p.text in
    omega (
      arith,
      some_byte p.kind p.text after h,
      length-append (token_of p.kind s next)
          (tokens_of next ps),
      one_at_most p.kind s next,
      as_many next ps after more,
    )

pub count : (bytes : List ℕ) (found : List Token) → Fits bytes found → length found ≤ length bytes
count bytes found (ps, h, e) = subst (λ ts. length ts ≤ length bytes) (sym e) (as_many start ps bytes h)
