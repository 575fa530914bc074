-- The chart's answer is what a text is read as, and that fits.
use Rattle.std.proofs.Common.{◌≡◌, refl, sym, ap, subst, ◌∙◌, ℕ, zero, suc, ◌-◌, ◌≤◌, ◌==◌, true, ◌&&◌, ◌||◌, List, [], ◌∷◌, length, map, take, drop, slice_range, inl, inr, arith}
use Rattle.std.proofs.lemmas.List.{length-map}
use Rattle.std.specs.Prelude.{Ok, Err}
use Rattle.std.specs.List.{All, list_all}
use Rattle.elan_lexer.specs.declared.token.Token.{Token}
use Rattle.elan_terms.specs.declared.tree.SortId.{SortId}
use Rattle.elan_terms.specs.declared.tree.Pattern.{Pattern}
use Rattle.elan_terms.specs.Match.{occurrences}
use Rattle.elan_terms.proofs.Lists.{AllOf, all_of, all_from}
use Rattle.elan_program.specs.declared.signature.Signature.{Signature}
use Rattle.elan_program.specs.Soundness.{is_sound}
use Rattle.elan_program.specs.Patterns.{uses, is_bound}
use Rattle.elan_modules.specs.declared.flat.LoadedText.{LoadedText}
use Rattle.elan_reading.specs.declared.lexeme.Variable.{Variable}
use Rattle.elan_reading.specs.declared.sought.Sought.{Sought}
use Rattle.elan_reading.specs.declared.sought.Sought.TheVariants as sought
use Rattle.elan_reading.specs.declared.sought.ReadingRefusal.{ReadingRefusal}
use Rattle.elan_reading.specs.declared.sought.ReadingRefusal.TheVariants as refusal
use Rattle.elan_reading.specs.Lexemes.{lexeme_of, IsInRange}
use Rattle.elan_reading.specs.Answers.{IsOnly, IsRefused}
use Rattle.elan_chart.specs.Fitting.{as_numbered, IsOfSought}
use Rattle.elan_chart.proofs.LawLemmas.{used, of_sought}
use Rattle.elan_clauses.specs.Gives.{Tells}
use Rattle.elan_clauses.specs.Offered.{is_declared, IsOf, ReadsWell}
use Rattle.elan_reader.specs.Answers.{IsAnswer}
use Rattle.elan_reader.specs.ReadAs.{read_as}
use Rattle.elan_reader.specs.Asked.{chart_reader, unread_of}
use Rattle.elan_reader.proofs.AnswerLemmas.{read_as-answer, only_answer}

module _ (g : Signature) (vs : List Variable) (what : Sought) (bytes : List ℕ) (tokens : List Token) (sound : is_sound g ≡ true) where
  as_long : length tokens ≤ 256 → length (map (lexeme_of bytes) tokens) ≤ 256
  as_long le = omega (arith, length-map tokens (lexeme_of bytes))

  -- a tree that is answered
  pub told_ok : (t : Pattern) → IsOnly g vs (map (lexeme_of bytes) tokens) what t → length tokens ≤ 256
      → read_as g vs what bytes tokens ≡ Ok t
  told_ok t one le = sym (only_answer g vs what bytes tokens (Ok t) sound (as_long le, one))

  -- a refusal
  pub told_err : (e : ReadingRefusal) → IsRefused g vs (map (lexeme_of bytes) tokens) what e
      → Tells (Err (unread_of e)) (read_as g vs what bytes tokens)
  told_err refusal.None h = sym (only_answer g vs what bytes tokens (Err _) sound (inl (refl, h.0, h.1)))
  told_err refusal.Several h = sym (only_answer g vs what bytes tokens (Err _) sound (inr (inl (refl, h.0, h.1))))
  told_err refusal.TooLong h = sym (only_answer g vs what bytes tokens (Err _) sound (inr (inr (refl, h))))
  told_err refusal.NoMemory h = tt

-- ---- what is read fits

is_bound-declared : (vs : List Variable) (v : ℕ × SortId) → is_bound (map as_numbered vs) v ≡ is_declared vs v
is_bound-declared [] v = refl
is_bound-declared (w ∷ ws) v = ap (λ b. (w.number == v.0 && w.sort.0 == v.1.0) || b) (is_bound-declared ws v)

all_bound-declared : (vs : List Variable) (us : List (ℕ × SortId)) → list_all (is_bound (map as_numbered vs)) us ≡ list_all (is_declared vs) us
all_bound-declared vs [] = refl
all_bound-declared vs (u ∷ us) =
    ap (λ b. b && list_all (is_bound (map as_numbered vs)) us) (is_bound-declared vs u)
    ∙ ap (λ b. is_declared vs u && b) (all_bound-declared vs us)

uses-declared : (vs : List Variable) (t : Pattern) → uses (map as_numbered vs) t ≡ true → list_all (is_declared vs) (occurrences t) ≡ true
unfolding uses
uses-declared vs t h = sym (all_bound-declared vs (occurrences t)) ∙ h

module _ {X Y : Type 0} (P : Y → Type 0) (f : X → Y) where
  in_take : (n : ℕ) (xs : List X) → AllOf P (map f xs) → AllOf P (map f (take n xs))
  in_take zero xs h = tt
  in_take (suc n) [] h = tt
  in_take (suc n) (x ∷ xs) h = (h.0, in_take n xs h.1)

  in_drop : (n : ℕ) (xs : List X) → AllOf P (map f xs) → AllOf P (map f (drop n xs))
  in_drop zero xs h = h
  in_drop (suc n) [] h = tt
  in_drop (suc n) (x ∷ xs) h = in_drop n xs h.1

  -- what holds of all holds of a part
  in_part : (xs : List X) (a b : ℕ) → All P (map f xs) → All P (map f (slice_range xs a b))
  in_part xs a b h = all_from P (map f (slice_range xs a b)) (in_take (b - a) (drop a xs) (in_drop a xs (all_of P (map f xs) h)))

of_sort : (g : Signature) (what : Sought) (t : Pattern) → IsOfSought g what t → IsOf g what t
of_sort g (sought.Sort s) t h = h
of_sort g sought.Any t h = h

pub reads_well : (g : Signature) (text : LoadedText) → is_sound g ≡ true → All IsInRange (map (lexeme_of text.bytes) text.tokens)
    → ReadsWell chart_reader g text
reads_well g text sound h declared what at t e =
    let tokens : List Token = slice_range text.tokens at.first at.past in
    let a : IsAnswer g declared (map (lexeme_of text.bytes) tokens) what (Ok t) =
    subst (IsAnswer g declared (map (lexeme_of text.bytes) tokens) what) e (read_as-answer g declared what text.bytes tokens sound) in (
      of_sort g what t (of_sought g declared (map (lexeme_of text.bytes) tokens) what t sound
          (in_part IsInRange (lexeme_of text.bytes) text.tokens at.first at.past h) a.1.0),
      uses-declared declared t (used g declared (map (lexeme_of text.bytes) tokens) what t a.1.0),
    )
