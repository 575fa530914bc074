-- Lists of words, and the digits of one.
use Rattle.std.proofs.Common.{◌≡◌, ◌∙◌, ◌≢◌, ◌+◌, ◌<◌, ℕ, Bool, true, false, suc, ◌&&◌, ◌||◌, List, []}
use Rattle.std.proofs.Common.{◌∷◌, ◌++◌, length, take, drop, None, nat_lt, nat_le, ltb-true, true≢false, refl}
use Rattle.std.proofs.Common.{sym, ap, arith, get_or, drop-cons, String, string_bytes}
use Rattle.std.specs.List.{list_all, list_any, slice_index_or}
use Rattle.std.specs.Option.{option_or}
use Rattle.std.specs.Char.{is_ascii_digit}
use Rattle.std.specs.Str.{all_ascii_digits}
use Rattle.std.specs.Str.Parse.{digits_value}
use Rattle.std.proofs.lemmas.List.{take_more, map-append}
use Rattle.std.proofs.lemmas.Bool.Decides.{nat_tests}
use Rattle.std.proofs.lemmas.Str.Parse.{IsNumeralModel, numerals_by_value, tells_all_ascii_digits}
use Rattle.elan_cli.specs.Words.{Word, in_range, is_equals, is_numeral, texts}
use Rattle.elan_cli.specs.Line.{first_mistake, mistake}

-- ---- digits

pub digits_alone : (ds : List ℕ) → list_all is_ascii_digit ds ≡ all_ascii_digits ds
digits_alone [] = refl
digits_alone (d ∷ ds) = ap (λ b. is_ascii_digit d && b) (digits_alone ds)

pub digits : IsNumeralModel (λ ds. all_ascii_digits ds ≡ true) (digits_value 10)
digits = numerals_by_value _ tells_all_ascii_digits

both : (a b : Bool) → (a && b) ≡ true → (a ≡ true) × (b ≡ true)
both true b e = (refl, e)
both false b e = absurd (true≢false (sym e))

-- what a numeral is, as facts
pub with_digits : (ds : List ℕ) → is_numeral ds ≡ true → (0 < length ds) × (all_ascii_digits ds ≡ true)
with_digits ds e =
    let some = both (nat_lt 0 (length ds)) _ e in
    let rest = both (nat_le (length ds) 19) _ some.1 in
    (ltb-true 0 (length ds) some.0, rest.1)

-- a number past the range is none in it
pub past_range : (ds : List ℕ) (most : ℕ) → most < digits_value 10 ds → None ≡ in_range most ds
past_range ds most lt = grind (arith, nat_tests, lt)

-- ---- the byte `=`

pub no_equals : (bs : List ℕ) → ((i : ℕ) → i < length bs → get_or bs i 0 ≢ 61) → list_any is_equals bs ≡ false
no_equals [] lacks = refl
no_equals (b ∷ bs) lacks =
    let here : is_equals b ≡ false = grind (arith, nat_tests, lacks 0 (omega arith)) in
    rw here (no_equals bs (λ i lt. lacks (suc i) (omega arith)))

-- ---- words

module _ {Z : Type 0} where
  pub list_any-texts : (p : Word → Bool) (ws : List (String Z))
      → list_any (λ w. p (string_bytes w)) ws ≡ list_any p (texts ws)
  list_any-texts p [] = refl
  list_any-texts p (w ∷ ws) = ap (λ b. p (string_bytes w) || b) (list_any-texts p ws)

  -- the words from a place on
  pub texts-drop : (ws : List (String Z)) (i : ℕ) (d : String Z) → i < length ws
      → texts (drop i ws) ≡ string_bytes (slice_index_or ws i d) ∷ texts (drop (i + 1) ws)
  texts-drop ws i d lt =
      let next : suc i ≡ i + 1 = omega arith in
      ap texts (drop-cons ws i d lt) ∙ ap (λ k. string_bytes (slice_index_or ws i d) ∷ texts (drop k ws)) next

  pub texts-take : (ws : List (String Z)) (i : ℕ) (d : String Z) → i < length ws
      → texts (take (i + 1) ws) ≡ texts (take i ws) ++ string_bytes (slice_index_or ws i d) ∷ []
  texts-take ws i d lt = ap texts (take_more ws i d lt)
      ∙ map-append string_bytes (take i ws) (slice_index_or ws i d ∷ [])

  -- the first mistake, from a place on
  pub first_mistake-next : (plain : Bool) (ws : List (String Z)) (i : ℕ) (d : String Z) → i < length ws
      → first_mistake plain (texts (take i ws)) (texts (drop i ws))
      ≡ option_or (mistake plain (texts (take i ws)) (string_bytes (slice_index_or ws i d)) (texts (drop (i + 1) ws)))
      (first_mistake plain (texts (take (i + 1) ws)) (texts (drop (i + 1) ws)))
  first_mistake-next plain ws i d lt =
      rw (texts-drop ws i d lt, texts-take ws i d lt) refl
