-- A front of a sort expression is marked exactly where it ends with a name and has more names than the limit.
use Rattle.std.proofs.Common.{◌≡◌, ℕ, suc, ◌<◌, Bool, true, false, List, [], ◌∷◌, ◌++◌, inl, inr, refl, ap, ◌∙◌, arith}
use Rattle.std.specs.Prelude.{◌↔◌, count_by}
use Rattle.elan_forms.specs.Whole.{Possible, EndsWith, IsFirstMark}
use Rattle.elan_forms.specs.Form.{◌>>=◌, ◌>>◌, pure, either}
use Rattle.elan_forms.proofs.Marks.{Counts, Skips, itself, counts_less, counts_pure, counts_then, counts_behind, counts_skip, counts_either, counts_loop, counts_nested, marks_are, first_mark}
use Rattle.elan_phrases.specs.declared.symbol.Symbol.{Symbol}
use Rattle.elan_phrases.specs.declared.symbol.Symbol.TheVariants.{Comma, LeftSquare, RightSquare, Name}
use Rattle.elan_phrases.specs.Symbols.{Seen, same_symbol, one, a, names}
use Rattle.elan_phrases.specs.Tokens.{sign}
use Rattle.elan_phrases.specs.SortExpressions.{Limited, more_arguments, arguments, bracketed, sort_body, sort}
use Rattle.elan_phrases.proofs.SymbolSets.{same_is, separate}
use Rattle.elan_phrases.proofs.ExactTokens.{sample}
use Rattle.elan_phrases.proofs.ExactSorts.{sort_grows, sort_lessens, sort_word}

-- a sign is one token, and no name
sign_skips : (s : Symbol) → ((x : Symbol) → names x ≡ true → one s x ≡ true → ⊥) → Skips (a names) (sign s)
sign_skips s apart = record {
  has = λ n. (sample s ∷ [], (sample s ∷ [], [], sample s, (refl, same_is s), (refl, refl), refl));
  one = one_token;
  unmarked = no_mark;
}
  where
    not_name : (t : Seen) → one s t.symbol ≡ true → (d : Bool) → names t.symbol ≡ d → names t.symbol ≡ false
    not_name t e true d = absurd (apart t.symbol d e)
    not_name t e false d = d

    one_token : (n : ℕ) (ts : List Seen) → (sign s).words n ts tt → (t : Seen) × (ts ≡ t ∷ []) × (a names t ≡ false)
    one_token n ts (u, v, x, (eu, px), (ev, ew), e) = (
      x,
      e ∙ ap (λ z. z ++ v) eu ∙ ap (λ z. x ∷ z) ev,
      not_name x px (names x.symbol) refl,
    )

    no_mark : (n : ℕ) (ts : List Seen) → (sign s).marks n ts → ⊥
    no_mark n ts (inl m) = m
    no_mark n ts (inr (u, v, x, fw, m, e)) = m

comma_skips : Skips (a names) (sign Comma)
unfolding names same_symbol
comma_skips = sign_skips Comma (separate {p = names} {q = one Comma} refl).never

left_skips : Skips (a names) (sign LeftSquare)
unfolding names same_symbol
left_skips = sign_skips LeftSquare (separate {p = names} {q = one LeftSquare} refl).never

right_skips : Skips (a names) (sign RightSquare)
unfolding names same_symbol
right_skips = sign_skips RightSquare (separate {p = names} {q = one RightSquare} refl).never

-- a rule of which so many names are left, and whose value is how many are left then
abbrev Limits : ℕ → Limited → Type 0
Limits b S = (left : ℕ) → Counts (a names) b left itself (S left)

unchanged : (b : ℕ) → Limits b (λ l. pure l)
unchanged b left = counts_pure (a names) b itself left

module _ (b : ℕ) (h : Limits b sort) where
  skip : (f : Symbol) (S : Limited) → Skips (a names) (sign f) → Limits b S → Limits b (λ left. sign f >> S left)
  skip f S hf hs left = counts_less (a names) b (suc b) left itself _ (omega arith)
      (counts_skip (a names) b left itself (sign f) (S left) hf (hs left))

  more_arguments_counts : Limits b (more_arguments sort)
  unfolding more_arguments
  more_arguments_counts = counts_loop (a names) b itself (λ _. a (one Comma)) (λ l. sign Comma >> sort l)
      (skip Comma sort comma_skips h)

  arguments_counts : Limits b (arguments sort)
  unfolding arguments
  arguments_counts left =
      counts_then (a names) b left itself itself (sort left) _ (h left) (λ l.
      counts_then (a names) b l itself itself (more_arguments sort l) (λ l2. sign RightSquare >>= (λ _. pure l2))
      (more_arguments_counts l)
      (skip RightSquare (λ l2. pure l2) right_skips (unchanged b)))

  bracketed_counts : Limits b (bracketed sort)
  unfolding bracketed
  bracketed_counts = skip LeftSquare (arguments sort) left_skips arguments_counts

  sort_body_counts : Limits (suc b) (sort_body sort)
  unfolding sort_body names
  sort_body_counts left =
      counts_behind (a names) b left itself (a names) (sample Name) (λ l. either (bracketed sort l) (pure l)) refl
      (λ t e. e) (λ l. counts_either (a names) b l itself (bracketed sort l) (pure l) (bracketed_counts l) (unchanged b l))

sort_counts : (b : ℕ) → Limits b sort
unfolding sort
sort_counts b = counts_nested (a names) itself (a names) sort_body sort_grows sort_lessens sort_word sort_body_counts b

pub sort_marks : (left n : ℕ) (front : List Seen) → (sort left).marks n front ↔
    (EndsWith (a names) front × (left < count_by (a names) front) × Possible ((sort left).words n) front)
sort_marks left n front = marks_are (a names) left itself (sort left) (λ b. sort_counts b left) n front

pub sort_first_mark : (left n : ℕ) (front : List Seen) (t : Seen) → IsFirstMark ((sort left).marks n) front t ↔
    ((a names t ≡ true) × (count_by (a names) front ≡ left) × Possible ((sort left).words n) (front ++ t ∷ []))
sort_first_mark left n front t = first_mark (a names) left itself (sort left) (λ b. sort_counts b left) n front t
