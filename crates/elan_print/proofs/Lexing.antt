-- The tokens of a printed text are those that were written.
use Rattle.std.proofs.Common.{◌≡◌, refl, sym, ap, ◌∙◌, subst, ⊎_elim, inl, inr, ℕ, ◌+◌, ◌-◌, ◌<◌, ◌≤◌, Bool, true, false, cond, ◌||◌, ◌==◌, Some, None, List, [], ◌∷◌, ◌++◌, append_assoc, length, map, take, drop, arith}
use Rattle.std.specs.Prelude.{decimal, slice_range}
use Rattle.std.specs.Str.{all_ascii_digits}
use Rattle.std.proofs.lemmas.Grind.{common_steps}
use Rattle.std.proofs.lemmas.List.{take_at, drop_at, length-append}
use Rattle.std.proofs.lemmas.Fmt.{digits_decimal, decimal_nonempty}
use Rattle.elan_lexer.specs.declared.token.Kind.{Kind}
use Rattle.elan_lexer.specs.declared.token.Kind.TheVariants.{Word, Sign}
use Rattle.elan_lexer.specs.declared.token.Token.{Token}
use Rattle.elan_lexer.specs.declared.places.Spot.{Spot}
use Rattle.elan_lexer.specs.declared.bytes.Class.TheVariants as class
use Rattle.elan_lexer.specs.Bytes.{is_letter, is_digit, is_visible, is_in, is_pair, value, begins, begins_pair, max_number}
use Rattle.elan_lexer.specs.Pieces.{AllIn, StopsAt, IsSign, IsToken, AreDigits}
use Rattle.elan_lexer.specs.Places.{start, moved}
use Rattle.elan_lexer.specs.Text.{Piece, Spells, tokens_of, Fits}
use Rattle.elan_program.specs.Spelling.{is_sign_byte}
use Rattle.elan_terms.proofs.Lists.{AllOf}
use Rattle.elan_terms.proofs.Sorting.{not_true}
use Rattle.elan_laws.proofs.CanonicalLaws.{true_or_false}
use Rattle.elan_print.specs.Tokens.{Printed, spelled, opening, closing, minus, digits, kind_of, token_of, bytes_of, opens, closes, space_unless, is_tight_before, is_tight_after, written}
use Rattle.elan_reading.specs.Lexemes.{lexeme_of}
use Rattle.elan_print.proofs.Reading.{numerals, value-decimal}
use Rattle.elan_print.proofs.Good.{IsGood, Spelling, a_word, a_pair, a_sign, spelling_of}

-- ---- what may come after

-- a space, `)`, `]`, `[`, `,` or `(`
abbrev is_safe : ℕ → Bool
is_safe b = b == 32 || (b == 41 || (b == 93 || (b == 91 || (b == 44 || b == 40))))

-- nothing, or such a byte first
abbrev IsSafe : List ℕ → Type 0
IsSafe [] = Unit {0}
IsSafe (b ∷ bs) = is_safe b ≡ true

closes_safe : (b : ℕ) → closes (b ∷ []) ≡ true → is_safe b ≡ true
closes_safe b e = grind (arith, common_steps)

-- behind a token that wants a space, there is one, or a bracket or comma
safe_part : (p : Printed) (rest : List ℕ) → is_tight_before p ≡ true → IsSafe (bytes_of p ++ rest)
safe_part (spelled []) rest e = not_true (sym e)
safe_part (spelled (b ∷ [])) rest e = closes_safe b e
safe_part (spelled (b ∷ c ∷ bs)) rest e = not_true (sym e)
safe_part opening rest e = not_true (sym e)
safe_part closing rest e = refl
safe_part minus rest e = not_true (sym e)
safe_part (digits bytes) rest e = not_true (sym e)

safe_written : (ps : List Printed) → IsSafe (written false ps)
safe_written [] = tt
safe_written (p ∷ ps) = ⊎_elim
    (λ e. subst (λ b. IsSafe (space_unless b ++ (bytes_of p ++ written (is_tight_after p) ps))) (sym e) (safe_part p (written (is_tight_after p) ps) e))
    (λ e. subst (λ b. IsSafe (space_unless b ++ (bytes_of p ++ written (is_tight_after p) ps))) (sym e) refl)
    (true_or_false (is_tight_before p))

-- ---- tokens at their places

safe_word : (b : ℕ) → is_safe b ≡ true → is_in class.Word b ≡ false
unfolding is_in
safe_word b e = grind (arith, common_steps)

safe_digit : (b : ℕ) → is_safe b ≡ true → is_digit b ≡ false
safe_digit b e = grind (arith, common_steps)

safe_pair : (b c : ℕ) → is_safe c ≡ true → is_pair b c ≡ false
safe_pair b c e = grind (arith, common_steps)

safe_slash : (c : ℕ) → is_safe c ≡ true → ((c == 47) ≡ false) × ((c == 42) ≡ false)
safe_slash c e = (grind (arith, common_steps), grind (arith, common_steps))

words_stop : (rest : List ℕ) → IsSafe rest → StopsAt (is_in class.Word) rest
words_stop [] h = tt
words_stop (b ∷ rest) h = safe_word b h

digits_stop : (rest : List ℕ) → IsSafe rest → StopsAt is_digit rest
digits_stop [] h = tt
digits_stop (b ∷ rest) h = safe_digit b h

no_pair : (b : ℕ) (rest : List ℕ) → IsSafe rest → begins_pair b rest ≡ false
no_pair b [] h = refl
no_pair b (c ∷ rest) h = safe_pair b c h

no_comment : (rest : List ℕ) → IsSafe rest → (begins 47 rest ≡ false) × (begins 42 rest ≡ false)
no_comment [] h = (refl, refl)
no_comment (c ∷ rest) h = safe_slash c h

open_pair : (b c : ℕ) → opens (b ∷ []) ≡ true → is_pair b c ≡ false
open_pair b c e = grind (arith, common_steps)

open_slash : (b : ℕ) → opens (b ∷ []) ≡ true → b ≡ 47 → ⊥
open_slash b e f = grind (arith, common_steps)

opened_pair : (b : ℕ) (rest : List ℕ) → opens (b ∷ []) ≡ true → begins_pair b rest ≡ false
opened_pair b [] e = refl
opened_pair b (c ∷ rest) e = open_pair b c e

sign_is : (b : ℕ) → is_sign_byte b ≡ true → (is_visible b ≡ true) × (is_letter b ≡ false) × (is_digit b ≡ false)
sign_is b e = (grind (arith, common_steps), grind (arith, common_steps), grind (arith, common_steps))

letter_closed : (b : ℕ) (bs : List ℕ) → is_letter b ≡ true → opens (b ∷ bs) ≡ false
letter_closed b [] e = grind (arith, common_steps)
letter_closed b (c ∷ bs) e = refl

digits_of : (ds : List ℕ) → all_ascii_digits ds ≡ true → AllIn is_digit ds
digits_of [] e = tt
digits_of (d ∷ ds) e = grind (arith, common_steps, digits_of ds)

a_number : (ds rest : List ℕ) → 0 < length ds → AllIn is_digit ds → IsSafe rest → AreDigits ds rest
a_number [] rest some h safe = absurd (omega (arith, some))
a_number (d ∷ ds) rest some h safe = (d, ds, h.0, h.1, digits_stop rest safe, refl)

abbrev kind_in : Printed → Kind
kind_in p = let t = token_of p in t.kind

spelling_token : (bytes rest : List ℕ) → Spelling bytes → (opens bytes ≡ false → IsSafe rest) → IsToken (kind_of bytes) bytes rest
spelling_token _ rest (a_word b bs l h) safe =
    subst (λ c. IsToken (cond c Word Sign) (b ∷ bs) rest) (sym l) (b, bs, l, h, words_stop rest (safe (letter_closed b bs l)), refl)
spelling_token _ rest (a_pair b c p x y) safe =
    subst (λ d. IsToken (cond d Word Sign) (b ∷ c ∷ []) rest) (sym (pair_first b c p)) (inl (b, c, p, refl))
  where
    pair_first : (b c : ℕ) → is_pair b c ≡ true → is_letter b ≡ false
    pair_first b c e = grind (arith, common_steps)
spelling_token _ rest (a_sign b e) safe =
    let k : (is_visible b ≡ true) × (is_letter b ≡ false) × (is_digit b ≡ false) = sign_is b e in
    subst (λ d. IsToken (cond d Word Sign) (b ∷ []) rest) (sym k.1) (⊎_elim
    (λ o. inr (b, k, opened_pair b rest o, (λ f. absurd (open_slash b o f)), refl))
    (λ o. inr (b, k, no_pair b rest (safe o), (λ f. no_comment rest (safe o)), refl))
    (true_or_false (opens (b ∷ []))))

one_sign : (b : ℕ) (rest : List ℕ) → is_sign_byte b ≡ true → begins_pair b rest ≡ false → (b ≡ 47 → ⊥) → IsSign (b ∷ []) rest
one_sign b rest e alone other = inr (b, sign_is b e, alone, (λ f. absurd (other f)), refl)

plain_pair : (b : ℕ) (rest : List ℕ) → ((c : ℕ) → is_pair b c ≡ false) → begins_pair b rest ≡ false
plain_pair b [] h = refl
plain_pair b (c ∷ rest) h = h c

part_token : (p : Printed) (rest : List ℕ) → IsGood p → (is_tight_after p ≡ false → IsSafe rest) → IsToken (kind_in p) (bytes_of p) rest
part_token (spelled bytes) rest h safe = spelling_token bytes rest (spelling_of bytes h) safe
part_token opening rest h safe = one_sign 40 rest refl (plain_pair 40 rest (λ c. refl)) (λ f. omega (arith, f))
part_token closing rest h safe = one_sign 41 rest refl (plain_pair 41 rest (λ c. refl)) (λ f. omega (arith, f))
part_token minus rest h safe = one_sign 45 rest refl (plain_pair 45 rest (λ c. refl)) (λ f. omega (arith, f))
part_token (digits bytes) rest h safe =
    let most : value (decimal h.0) ≤ max_number = let v : value (decimal h.0) ≡ h.0 = value-decimal h.0 (omega (arith, h.1)) in omega (arith, v, h.1) in
    subst (λ ds. AreDigits ds rest × (value ds ≤ max_number)) (sym h.2)
    (a_number (decimal h.0) rest (decimal_nonempty h.0 (omega (arith, h.1))) (digits_of (decimal h.0) (digits_decimal numerals h.0 (omega (arith, h.1)))) (safe refl), most)

-- ---- the whole text

-- one space, or none
abbrev blank : Bool → List Piece
blank true = []
blank false = record { kind = None; text = 32 ∷ [] } ∷ []

abbrev pieces : Bool → List Printed → List Piece
pieces tight [] = []
pieces tight (p ∷ ps) = blank (tight || is_tight_before p) ++ (record { kind = Some (kind_in p); text = bytes_of p } ∷ pieces (is_tight_after p) ps)

spell_blank : (b : Bool) (ps : List Piece) (rest : List ℕ) → Spells ps rest [] → Spells (blank b ++ ps) (space_unless b ++ rest) []
spell_blank true ps rest h = h
spell_blank false ps rest h = (rest, inl (32, refl, refl), h, refl)

after_safe : (tight : Bool) (ps : List Printed) → tight ≡ false → IsSafe (written tight ps)
after_safe tight ps e = subst (λ b. IsSafe (written b ps)) (sym e) (safe_written ps)

spelled_so : (tight : Bool) (ps : List Printed) → AllOf IsGood ps → Spells (pieces tight ps) (written tight ps) []
spelled_so tight [] h = refl
spelled_so tight (p ∷ ps) h =
    let rest : List ℕ = written (is_tight_after p) ps in
    spell_blank (tight || is_tight_before p) (record { kind = Some (kind_in p); text = bytes_of p } ∷ pieces (is_tight_after p) ps) (bytes_of p ++ rest)
    (rest, part_token p rest h.0 (after_safe (is_tight_after p) ps), spelled_so (is_tight_after p) ps h.1, refl)

-- the bytes at a place
range_at : (x y z : List ℕ) (n : ℕ) → n ≡ length x → slice_range (x ++ (y ++ z)) n (n + length y) ≡ y
range_at x y z n e =
    let d : drop n (x ++ (y ++ z)) ≡ y ++ z = drop_at x (y ++ z) n (sym e) in
    let k : n + length y - n ≡ length y = omega arith in
    ap (λ l. take (n + length y - n) l) d ∙ ap (λ m. take m (y ++ z)) k ∙ take_at y z (length y) refl

offset_of : Spot → ℕ
offset_of s = s.offset

blank_moved : Bool → Spot → Spot
blank_moved true s = s
blank_moved false s = moved s (32 ∷ [])

-- what is found of these tokens at any spot
abbrev Later : List ℕ → Bool → List Printed → Type 0
Later whole tight ps = (s : Spot) (x : List ℕ) → whole ≡ x ++ written tight ps → s.offset ≡ length x → map (lexeme_of whole) (tokens_of s (pieces tight ps)) ≡ map token_of ps

lexemes_of : (whole : List ℕ) (tight : Bool) (ps : List Printed) (s : Spot) (x : List ℕ) → whole ≡ x ++ written tight ps → s.offset ≡ length x → map (lexeme_of whole) (tokens_of s (pieces tight ps)) ≡ map token_of ps
lexemes_of whole tight [] s x e o = refl
lexemes_of whole tight (p ∷ ps) s x e o = go (λ s x e o. lexemes_of whole (is_tight_after p) ps s x e o) (tight || is_tight_before p) e
  where
    there : Later whole (is_tight_after p) ps → (s : Spot) (x : List ℕ) → whole ≡ x ++ (bytes_of p ++ written (is_tight_after p) ps) → s.offset ≡ length x
        → map (lexeme_of whole) (tokens_of s (record { kind = Some (kind_in p); text = bytes_of p } ∷ pieces (is_tight_after p) ps)) ≡ map token_of (p ∷ ps)
    there later s x e o =
        let text : slice_range whole s.offset (s.offset + length (bytes_of p)) ≡ bytes_of p
        = ap (λ w. slice_range w s.offset (s.offset + length (bytes_of p))) e ∙ range_at x (bytes_of p) (written (is_tight_after p) ps) s.offset o in
        let l : length (x ++ bytes_of p) ≡ length x + length (bytes_of p) = length-append x (bytes_of p) in
        ap (λ t. record { kind = kind_in p; text = t } ∷ map (lexeme_of whole) (tokens_of (moved s (bytes_of p)) (pieces (is_tight_after p) ps))) text
        ∙ ap (λ ls. token_of p ∷ ls) (later (moved s (bytes_of p)) (x ++ bytes_of p) (e ∙ sym (append_assoc x (bytes_of p) (written (is_tight_after p) ps))) (omega arith))

    go : Later whole (is_tight_after p) ps → (b : Bool) → whole ≡ x ++ (space_unless b ++ (bytes_of p ++ written (is_tight_after p) ps))
        → map (lexeme_of whole) (tokens_of s (blank b ++ (record { kind = Some (kind_in p); text = bytes_of p } ∷ pieces (is_tight_after p) ps))) ≡ map token_of (p ∷ ps)
    go later true e = there later s x e o
    go later false e =
        let l : length (x ++ 32 ∷ []) ≡ length x + 1 = length-append x (32 ∷ []) in
        there later (moved s (32 ∷ [])) (x ++ 32 ∷ []) (e ∙ sym (append_assoc x (32 ∷ []) (bytes_of p ++ written (is_tight_after p) ps))) (omega arith)

-- the text of good tokens is cut into them
pub tokens_again : (ps : List Printed) → AllOf IsGood ps → (found : List Token) × Fits (written true ps) found × (map (lexeme_of (written true ps)) found ≡ map token_of ps)
tokens_again ps h =
    (tokens_of start (pieces true ps), (pieces true ps, spelled_so true ps h, refl), lexemes_of (written true ps) true ps start [] refl refl)
