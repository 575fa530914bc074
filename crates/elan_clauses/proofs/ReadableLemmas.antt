-- A run of the tokens of a text that may be read may be read as well.
use Rattle.std.proofs.Common.{◌≡◌, ap, subst, sym, ℕ, ◌-◌, List, [], ◌∷◌, map, drop, take}
use Rattle.std.specs.Prelude.{slice_range}
use Rattle.std.specs.List.{All}
use Rattle.std.proofs.lemmas.List.Elements.{All-nil, All-cons, All-head, All-tail, All-take, All-drop, All-map}
use Rattle.elan_lexer.specs.declared.token.Token.{Token}
use Rattle.elan_lexer.specs.Text.{IsInside}
use Rattle.elan_reading.specs.Lexemes.{lexeme_of, IsInRange}
use Rattle.elan_modules.specs.declared.flat.LoadedText.{LoadedText}
use Rattle.elan_clauses.specs.Readable.{IsReadable}

module _ {A : Type 0} where
  all_range : (P : A → Type 0) (i j : ℕ) (xs : List A) → All P xs → All P (slice_range xs i j)
  all_range P i j xs h = All-take P (j - i) (drop i xs) (All-drop P i xs h)

  from_map : {B : Type 0} (P : B → Type 0) (f : A → B) (xs : List A) → All P (map f xs) → All (λ x. P (f x)) xs
  from_map P f [] h = All-nil (λ x. P (f x))
  from_map P f (x ∷ xs) h = All-cons (λ x. P (f x)) x xs (All-head P (f x) (map f xs) h) (from_map P f xs (All-tail P (f x) (map f xs) h))

module _ (text : LoadedText) (i j : ℕ) (ts : List Token) (readable : IsReadable text) (run : ts ≡ slice_range text.tokens i j) where
  pub inside_part : All (IsInside text.bytes) ts
  inside_part = subst (All (IsInside text.bytes)) (sym run) (all_range (IsInside text.bytes) i j text.tokens readable.inside)

  pub in_range_part : All IsInRange (map (lexeme_of text.bytes) ts)
  in_range_part = subst (λ ts. All IsInRange (map (lexeme_of text.bytes) ts)) (sym run)
      (All-map IsInRange (lexeme_of text.bytes) (slice_range text.tokens i j)
      (all_range (λ t. IsInRange (lexeme_of text.bytes t)) i j text.tokens (from_map IsInRange (lexeme_of text.bytes) text.tokens readable.in_range)))
