-- The words of programs are those that are cut and read as words.
use Rattle.std.proofs.Common.{◌≡◌, refl, sym, subst, ◌∙◌, ◌⊎◌, inl, inr, ⊎_elim, ◌↔◌, ℕ, Bool, true, false, not, ◌&&◌, ◌||◌, ◌==◌, cond, nat_le, Some, List, [], ◌∷◌, codes, map}
use Rattle.std.specs.List.{list_all, list_any}
use Rattle.std.specs.Str.{bytes_eq}
use Rattle.std.specs.Cmp.Lexicographic.{bytes_decides}
use Rattle.std.proofs.lemmas.Bool.{true≢false, and_parts, and_from, or_cases, or_left, or_right, not-true, not_from_false, eqb-true, false_from_ne_true}
use Rattle.elan_lexer.specs.declared.bytes.Class.TheVariants as class
use Rattle.elan_lexer.specs.declared.token.Kind.{Kind}
use Rattle.elan_lexer.specs.declared.token.Kind.TheVariants.{Word, Number, Sign}
use Rattle.elan_lexer.specs.Bytes.{is_in, is_visible, is_pair}
use Rattle.elan_lexer.specs.Pieces.{AllIn, IsToken, IsSign}
use Rattle.elan_phrases.specs.declared.symbol.Symbol.{Symbol}
use Rattle.elan_phrases.specs.declared.symbol.Symbol.TheVariants as symbol
use Rattle.elan_phrases.specs.Symbols.{look_up, reserved_words, strategy_words, placed_words, named_signs, found_or, word_symbol, symbol_of, names, spelled}
use Rattle.elan_program.specs.Spelling.{is_letter, is_digit, is_in_word, is_word, reserved, long_signs, is_sign_byte, is_short_sign, is_name, is_spelled}

abbrev Table : Type 0
Table = List (List ℕ × Symbol)

-- ---- what a table gives

-- each symbol of a table that may be found passes
abbrev AllPass : (Symbol → Bool) → Table → Type 0
AllPass p table = list_all (λ e. p e.1) table ≡ true

found_passes : (p : Symbol → Bool) (text : List ℕ) (table : Table) (other : Symbol) → AllPass p table → p other ≡ true
    → p (found_or (look_up text table) other) ≡ true
found_passes p text [] other all o = o
found_passes p text (e ∷ es) other all o =
    let parts = and_parts (p e.1) (list_all (λ e. p e.1) es) all in
    by_case (bytes_eq text e.0) parts.0 (found_passes p text es other parts.1 o)
  where
    by_case : (b : Bool) → p e.1 ≡ true → p (found_or (look_up text es) other) ≡ true
        → p (found_or (cond b (Some e.1) (look_up text es)) other) ≡ true
    by_case true first rest = first
    by_case false first rest = rest

-- the texts of a table
abbrev texts : Table → List (List ℕ)
texts = map (λ e. e.0)

-- a text that the table does not have leaves the other symbol
found_nothing : (p : Symbol → Bool) (text : List ℕ) (table : Table) (other : Symbol) → list_any (bytes_eq text) (texts table) ≡ false
    → p (found_or (look_up text table) other) ≡ p other
found_nothing p text [] other none = refl
found_nothing p text (e ∷ es) other none = by_case (bytes_eq text e.0) (λ rest. found_nothing p text es other rest) none
  where
    by_case : (b : Bool)
        → (list_any (bytes_eq text) (texts es) ≡ false → p (found_or (look_up text es) other) ≡ p other)
        → (b || list_any (bytes_eq text) (texts es)) ≡ false
        → p (found_or (cond b (Some e.1) (look_up text es)) other) ≡ p other
    by_case true rest none = absurd (true≢false none)
    by_case false rest none = rest none

-- each symbol of a table that may be found fails
abbrev AllFail : (Symbol → Bool) → Table → Type 0
AllFail p table = list_all (λ e. not (p e.1)) table ≡ true

found_fails : (p : Symbol → Bool) (text : List ℕ) (table : Table) (other : Symbol) → AllFail p table
    → list_any (bytes_eq text) (texts table) ≡ true → p (found_or (look_up text table) other) ≡ false
found_fails p text [] other all some = absurd (true≢false (sym some))
found_fails p text (e ∷ es) other all some =
    let parts = and_parts (not (p e.1)) (list_all (λ e. not (p e.1)) es) all in
    by_case (bytes_eq text e.0) (not-true (p e.1) parts.0) (λ rest. found_fails p text es other parts.1 rest) some
  where
    by_case : (b : Bool) → p e.1 ≡ false
        → (list_any (bytes_eq text) (texts es) ≡ true → p (found_or (look_up text es) other) ≡ false)
        → (b || list_any (bytes_eq text) (texts es)) ≡ true
        → p (found_or (cond b (Some e.1) (look_up text es)) other) ≡ false
    by_case true first rest some = first
    by_case false first rest some = rest some

-- each symbol whose text it is passes
abbrev EachPasses : (Symbol → Bool) → List ℕ → Table → Type 0
EachPasses p text [] = Unit {0}
EachPasses p text (e ∷ es) = (bytes_eq text e.0 ≡ true → p e.1 ≡ true) × EachPasses p text es

found_each : (p : Symbol → Bool) (text : List ℕ) (table : Table) (other : Symbol) → EachPasses p text table → p other ≡ true
    → p (found_or (look_up text table) other) ≡ true
found_each p text [] other all o = o
found_each p text (e ∷ es) other all o = by_case (bytes_eq text e.0) refl (found_each p text es other all.1 o)
  where
    by_case : (b : Bool) → bytes_eq text e.0 ≡ b → p (found_or (look_up text es) other) ≡ true
        → p (found_or (cond b (Some e.1) (look_up text es)) other) ≡ true
    by_case true is rest = all.0 is
    by_case false is rest = rest

-- ---- reserved words

-- a test of symbols that reserved words fail, and that all other words pass
record TellsWords (p : Symbol → Bool) : Type 0 where
  reserved_fail : AllFail p reserved_words
  strategies_pass : AllPass p strategy_words
  placed_pass : AllPass p placed_words
  name_passes : p symbol.Name ≡ true

names_tell : TellsWords names
unfolding names reserved_words strategy_words placed_words
names_tell = record { reserved_fail = refl; strategies_pass = refl; placed_pass = refl; name_passes = refl }

spelled_tell : TellsWords spelled
unfolding spelled names reserved_words strategy_words placed_words
spelled_tell = record { reserved_fail = refl; strategies_pass = refl; placed_pass = refl; name_passes = refl }

reserved_texts : (text : List ℕ) → list_any (bytes_eq text) (texts reserved_words) ≡ list_any (bytes_eq text) reserved
unfolding reserved_words reserved
reserved_texts text = refl

word_passes : (p : Symbol → Bool) → TellsWords p → (text : List ℕ) → p (word_symbol text) ≡ not (list_any (bytes_eq text) reserved)
unfolding word_symbol
word_passes p tells text = by_case (list_any (bytes_eq text) reserved) (reserved_texts text)
  where
    others : Symbol
    others = found_or (look_up text strategy_words) (found_or (look_up text placed_words) symbol.Name)

    others_pass : p others ≡ true
    others_pass =
        found_passes p text strategy_words _ tells.strategies_pass
        (found_passes p text placed_words symbol.Name tells.placed_pass tells.name_passes)

    by_case : (b : Bool) → list_any (bytes_eq text) (texts reserved_words) ≡ b
        → p (found_or (look_up text reserved_words) others) ≡ not b
    by_case true is = found_fails p text reserved_words others tells.reserved_fail is
    by_case false is = found_nothing p text reserved_words others is ∙ others_pass

-- ---- words

word_bytes : (bs : List ℕ) → list_all is_in_word bs ≡ true → AllIn (is_in class.Word) bs
unfolding is_in
word_bytes [] e = tt
word_bytes (b ∷ bs) e = let p = and_parts (is_in_word b) (list_all is_in_word bs) e in (p.0, word_bytes bs p.1)

bytes_word : (bs : List ℕ) → AllIn (is_in class.Word) bs → list_all is_in_word bs ≡ true
unfolding is_in
bytes_word [] all = refl
bytes_word (b ∷ bs) all = and_from (is_in_word b) (list_all is_in_word bs) all.0 (bytes_word bs all.1)

word_cut : (text : List ℕ) → is_word text ≡ true → IsToken Word text []
word_cut [] e = absurd (true≢false (sym e))
word_cut (b ∷ bs) e =
    let p = and_parts (is_letter b) (list_all is_in_word bs) e in (b, bs, p.0, word_bytes bs p.1, tt, refl)

cut_word : (text : List ℕ) → IsToken Word text [] → is_word text ≡ true
cut_word text (b, bs, letter, all, stops, is) =
    subst (λ (t : List ℕ). is_word t ≡ true) (sym is) (and_from (is_letter b) (list_all is_in_word bs) letter (bytes_word bs all))

name_parts : (text : List ℕ) → is_name text ≡ true → (is_word text ≡ true) × (not (list_any (bytes_eq text) reserved) ≡ true)
unfolding is_name
name_parts text e = and_parts (is_word text) (not (list_any (bytes_eq text) reserved)) e

name_from : (text : List ℕ) → is_word text ≡ true → not (list_any (bytes_eq text) reserved) ≡ true → is_name text ≡ true
unfolding is_name
name_from text e f = and_from (is_word text) (not (list_any (bytes_eq text) reserved)) e f

symbol_of_word : (p : Symbol → Bool) → TellsWords p → (text : List ℕ) → p (symbol_of Word text) ≡ not (list_any (bytes_eq text) reserved)
unfolding symbol_of
symbol_of_word p tells text = word_passes p tells text

pub name_exactly : (text : List ℕ) → (is_name text ≡ true) ↔ (IsToken Word text [] × (names (symbol_of Word text) ≡ true))
name_exactly text = (
  λ e. let p = name_parts text e in (word_cut text p.0, symbol_of_word names names_tell text ∙ p.1),
  λ w. name_from text (cut_word text w.0) (sym (symbol_of_word names names_tell text) ∙ w.1),
)

-- ---- spellings

abbrev Spelled : List ℕ → Type 0
Spelled text = (kind : Kind) × IsToken kind text [] × (spelled (symbol_of kind text) ≡ true) × (bytes_eq text (codes "@") ≡ false)

-- a word does not begin with `@`
word_is_no_hole : (text : List ℕ) → is_word text ≡ true → bytes_eq text (codes "@") ≡ false
word_is_no_hole [] e = refl
word_is_no_hole (b ∷ bs) e =
    false_from_ne_true (bytes_eq (b ∷ bs) (codes "@"))
    (λ same. let at = eqb-true b 64 (and_parts (b == 64) (bytes_eq bs []) same).0 in
    true≢false (sym (subst (λ c. is_letter c ≡ true) at (and_parts (is_letter b) (list_all is_in_word bs) e).0)))

spelled_name : (text : List ℕ) → is_name text ≡ true → Spelled text
spelled_name text e =
    let p = name_parts text e in
    (Word, word_cut text p.0, symbol_of_word spelled spelled_tell text ∙ p.1, word_is_no_hole text p.0)

spelled_long : (text : List ℕ) → list_any (bytes_eq text) long_signs ≡ true → Spelled text
unfolding long_signs symbol_of named_signs spelled
spelled_long text e =
    ⊎_elim (λ s. is (codes "==") s (Sign, inl (61, 61, refl, refl), refl, refl))
    (λ r. ⊎_elim (λ s. is (codes "!=") s (Sign, inl (33, 61, refl, refl), refl, refl))
    (λ r. ⊎_elim (λ s. is (codes "<=") s (Sign, inl (60, 61, refl, refl), refl, refl))
    (λ r. ⊎_elim (λ s. is (codes ">=") s (Sign, inl (62, 61, refl, refl), refl, refl))
    (λ r. absurd (true≢false (sym r)))
    (or_cases (bytes_eq text (codes ">=")) false r))
    (or_cases (bytes_eq text (codes "<=")) _ r))
    (or_cases (bytes_eq text (codes "!=")) _ r))
    (or_cases (bytes_eq text (codes "==")) _ e)
  where
    is : (sign : List ℕ) → bytes_eq text sign ≡ true → Spelled sign → Spelled text
    is sign same s = subst Spelled (sym ((bytes_decides text sign).0 same)) s

-- the parts of a sign of one byte
record IsShort (b : ℕ) : Type 0 where
  visible : is_visible b ≡ true
  no_letter : is_letter b ≡ false
  no_digit : is_digit b ≡ false
  no_hole : (b == 64) ≡ false
  no_colon : (b == 58) ≡ false
  no_semicolon : (b == 59) ≡ false

or_none : (a b : Bool) → not (a || b) ≡ true → (a ≡ false) × (b ≡ false)
or_none true b e = absurd (true≢false (sym e))
or_none false b e = (refl, not-true b e)

none_or : (a b : Bool) → a ≡ false → b ≡ false → not (a || b) ≡ true
none_or true b e f = absurd (true≢false e)
none_or false b e f = not_from_false b f

short_parts : (b : ℕ) → is_sign_byte b ≡ true → IsShort b
short_parts b e =
    let p = and_parts (nat_le 33 b && nat_le b 126) (not (is_letter b || is_digit b) && not (b == 64 || (b == 58 || b == 59))) e in
    let q = and_parts (not (is_letter b || is_digit b)) (not (b == 64 || (b == 58 || b == 59))) p.1 in
    let r = or_none (is_letter b) (is_digit b) q.0 in
    let s = or_none (b == 64) (b == 58 || b == 59) q.1 in
    let t = or_none (b == 58) (b == 59) (not_from_false (b == 58 || b == 59) s.1) in
    record { visible = p.0; no_letter = r.0; no_digit = r.1; no_hole = s.0; no_colon = t.0; no_semicolon = t.1 }

short_from : (b : ℕ) → IsShort b → is_sign_byte b ≡ true
short_from b s =
    and_from (nat_le 33 b && nat_le b 126) (not (is_letter b || is_digit b) && not (b == 64 || (b == 58 || b == 59))) s.visible
    (and_from (not (is_letter b || is_digit b)) (not (b == 64 || (b == 58 || b == 59))) (none_or (is_letter b) (is_digit b) s.no_letter s.no_digit)
    (none_or (b == 64) (b == 58 || b == 59) s.no_hole (not-true (b == 58 || b == 59) (none_or (b == 58) (b == 59) s.no_colon s.no_semicolon))))

-- one byte is no sign of two
no_pair : (b c d : ℕ) → bytes_eq (b ∷ []) (c ∷ d ∷ []) ≡ true → ⊥
no_pair b c d e = true≢false (sym (and_parts (b == c) false e).1)

-- one byte is another one
one_byte : (b c : ℕ) → bytes_eq (b ∷ []) (c ∷ []) ≡ true → (b == c) ≡ true
one_byte b c e = (and_parts (b == c) true e).0

no_hole_byte : (b : ℕ) → (b == 64) ≡ false → bytes_eq (b ∷ []) (codes "@") ≡ false
no_hole_byte b e = false_from_ne_true (bytes_eq (b ∷ []) (codes "@")) (λ same. true≢false (sym (one_byte b 64 same) ∙ e))

spelled_byte : (b : ℕ) → IsShort b → spelled (symbol_of Sign (b ∷ [])) ≡ true
unfolding symbol_of named_signs spelled
spelled_byte b s =
    found_each spelled (b ∷ []) named_signs symbol.Sign (
      λ e. absurd (no_pair b 61 62 e),
      (
        λ e. absurd (no_pair b 58 61 e),
        (
          λ e. refl,
          (
            λ e. absurd (true≢false (sym (one_byte b 59 e) ∙ s.no_semicolon)),
            (
              λ e. absurd (true≢false (sym (one_byte b 58 e) ∙ s.no_colon)),
              (
                λ e. refl,
                (
                  λ e. refl,
                  (
                    λ e. refl,
                    (
                      λ e. refl,
                      (
                        λ e. refl,
                        (λ e. refl, (λ e. refl, tt)),
                      ),
                    ),
                  ),
                ),
              ),
            ),
          ),
        ),
      ),
    ) refl

spelled_short : (text : List ℕ) → is_short_sign text ≡ true → Spelled text
spelled_short [] e = absurd (true≢false (sym e))
spelled_short (b ∷ []) e =
    let s = short_parts b e in
    (Sign, inr (b, (s.visible, s.no_letter, s.no_digit), refl, λ is. (refl, refl), refl), spelled_byte b s, no_hole_byte b s.no_hole)
spelled_short (b ∷ c ∷ bs) e = absurd (true≢false (sym e))

-- ---- back

-- a sign of two bytes that a spelling may have is one of four
pair_is : (b c : ℕ) → is_pair b c ≡ true → spelled (symbol_of Sign (b ∷ c ∷ [])) ≡ true → list_any (bytes_eq (b ∷ c ∷ [])) long_signs ≡ true
unfolding symbol_of named_signs spelled long_signs names
pair_is b c pair e =
    ⊎_elim
    (λ first. let p = and_parts (b == 61) (c == 62 || c == 61) first in
    ⊎_elim
    (λ arrow. absurd (true≢false (sym (at b c 61 62 (eqb-true b 61 p.0) (eqb-true c 62 arrow) (λ s. spelled (symbol_of Sign s) ≡ true) e))))
    (λ same. back b c 61 61 (eqb-true b 61 p.0) (eqb-true c 61 same) (λ s. list_any (bytes_eq s) long_signs ≡ true) refl)
    (or_cases (c == 62) (c == 61) p.1))
    (λ second. let p = and_parts (b == 58 || (b == 33 || (b == 60 || b == 62))) (c == 61) second in
    let c_is = eqb-true c 61 p.1 in
    ⊎_elim
    (λ becomes. absurd (true≢false (sym (at b c 58 61 (eqb-true b 58 becomes) c_is (λ s. spelled (symbol_of Sign s) ≡ true) e))))
    (λ r. ⊎_elim (λ is. back b c 33 61 (eqb-true b 33 is) c_is (λ s. list_any (bytes_eq s) long_signs ≡ true) refl)
    (λ r. ⊎_elim (λ is. back b c 60 61 (eqb-true b 60 is) c_is (λ s. list_any (bytes_eq s) long_signs ≡ true) refl)
    (λ is. back b c 62 61 (eqb-true b 62 is) c_is (λ s. list_any (bytes_eq s) long_signs ≡ true) refl)
    (or_cases (b == 60) (b == 62) r))
    (or_cases (b == 33) (b == 60 || b == 62) r))
    (or_cases (b == 58) (b == 33 || (b == 60 || b == 62)) p.0))
    (or_cases (b == 61 && (c == 62 || c == 61)) ((b == 58 || (b == 33 || (b == 60 || b == 62))) && c == 61) pair)
  where
    at : (b c d e : ℕ) → b ≡ d → c ≡ e → (P : List ℕ → Type 0) → P (b ∷ c ∷ []) → P (d ∷ e ∷ [])
    at b c d e p q P h = subst (λ y. P (d ∷ y ∷ [])) q (subst (λ x. P (x ∷ c ∷ [])) p h)

    back : (b c d e : ℕ) → b ≡ d → c ≡ e → (P : List ℕ → Type 0) → P (d ∷ e ∷ []) → P (b ∷ c ∷ [])
    back b c d e p q P h = at d e b c (sym p) (sym q) P h

-- what a spelling may have is no `:` and no `;`
byte_not : (b c : ℕ) → spelled (symbol_of Sign (c ∷ [])) ≡ false → spelled (symbol_of Sign (b ∷ [])) ≡ true → (b == c) ≡ false
byte_not b c fails e =
    false_from_ne_true (b == c)
    (λ same. true≢false (sym (subst (λ x. spelled (symbol_of Sign (x ∷ [])) ≡ true) (eqb-true b c same) e) ∙ fails))

colon_fails : spelled (symbol_of Sign (58 ∷ [])) ≡ false
unfolding symbol_of named_signs spelled names
colon_fails = refl

semicolon_fails : spelled (symbol_of Sign (59 ∷ [])) ≡ false
unfolding symbol_of named_signs spelled names
semicolon_fails = refl

hole_byte : (b : ℕ) → bytes_eq (b ∷ []) (codes "@") ≡ false → (b == 64) ≡ false
hole_byte b e = false_from_ne_true (b == 64) (λ same. true≢false (sym (and_from (b == 64) true same refl) ∙ e))

spelled_parts : (text : List ℕ) → (is_name text ≡ true) ⊎ ((list_any (bytes_eq text) long_signs ≡ true) ⊎ (is_short_sign text ≡ true)) → is_spelled text ≡ true
unfolding is_spelled
spelled_parts text (inl e) = or_left (is_name text) (list_any (bytes_eq text) long_signs || is_short_sign text) e
spelled_parts text (inr (inl e)) =
    or_right (is_name text) (list_any (bytes_eq text) long_signs || is_short_sign text) (or_left (list_any (bytes_eq text) long_signs) (is_short_sign text) e)
spelled_parts text (inr (inr e)) =
    or_right (is_name text) (list_any (bytes_eq text) long_signs || is_short_sign text) (or_right (list_any (bytes_eq text) long_signs) (is_short_sign text) e)

number_fails : (text : List ℕ) → spelled (symbol_of Number text) ≡ false
unfolding symbol_of spelled names
number_fails text = refl

sign_spelled : (text : List ℕ) → IsSign text [] → spelled (symbol_of Sign text) ≡ true → bytes_eq text (codes "@") ≡ false → is_spelled text ≡ true
sign_spelled text (inl (b, c, pair, is)) e f =
    spelled_parts text
    (inr (inl (subst (λ (t : List ℕ). list_any (bytes_eq t) long_signs ≡ true) (sym is)
    (pair_is b c pair (subst (λ (t : List ℕ). spelled (symbol_of Sign t) ≡ true) is e)))))
sign_spelled text (inr (b, byte, alone, slash, is)) e f =
    let s = subst (λ (t : List ℕ). spelled (symbol_of Sign t) ≡ true) is e in
    let h = subst (λ (t : List ℕ). bytes_eq t (codes "@") ≡ false) is f in
    spelled_parts text
    (inr (inr (subst (λ (t : List ℕ). is_short_sign t ≡ true) (sym is)
    (short_from b (record {
      visible = byte.0;
      no_letter = byte.1;
      no_digit = byte.2;
      no_hole = hole_byte b h;
      no_colon = byte_not b 58 colon_fails s;
      no_semicolon = byte_not b 59 semicolon_fails s;
    })))))

spelled_back : (text : List ℕ) → Spelled text → is_spelled text ≡ true
spelled_back text (Word, token, e, f) =
    spelled_parts text (inl (name_from text (cut_word text token) (sym (symbol_of_word spelled spelled_tell text) ∙ e)))
spelled_back text (Number, token, e, f) = absurd (true≢false (sym e ∙ number_fails text))
spelled_back text (Sign, token, e, f) = sign_spelled text token e f

spelled_cases : (text : List ℕ) → is_spelled text ≡ true → Spelled text
unfolding is_spelled
spelled_cases text e =
    ⊎_elim (spelled_name text)
    (λ r. ⊎_elim (spelled_long text) (spelled_short text) (or_cases (list_any (bytes_eq text) long_signs) (is_short_sign text) r))
    (or_cases (is_name text) (list_any (bytes_eq text) long_signs || is_short_sign text) e)

pub spelled_exactly : (text : List ℕ) → (is_spelled text ≡ true) ↔ Spelled text
spelled_exactly text = (spelled_cases text, spelled_back text)
