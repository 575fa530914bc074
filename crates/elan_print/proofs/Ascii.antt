-- The text of a term is ASCII.
use Rattle.std.proofs.Common.{◌≡◌, sym, ap, ◌∙◌, subst, ℕ, ◌<◌, ◌^◌, Bool, true, false, ◌||◌, List, [], ◌∷◌, ◌++◌, arith}
use Rattle.std.specs.Prelude.{decimal}
use Rattle.std.specs.Str.{IsAscii}
use Rattle.std.proofs.lemmas.Grind.{common_steps}
use Rattle.std.proofs.lemmas.Str.Ascii.{IsAscii-from_all, All-from_ascii}
use Rattle.std.proofs.lemmas.Fmt.{IsAscii-decimal}
use Rattle.elan_lexer.specs.Bytes.{is_letter, is_in}
use Rattle.elan_lexer.specs.declared.bytes.Class.TheVariants as class
use Rattle.elan_lexer.specs.Pieces.{AllIn}
use Rattle.elan_terms.specs.declared.tree.Term.{Term}
use Rattle.elan_program.specs.declared.signature.Signature.{Signature}
use Rattle.elan_program.specs.Signature.{shapes_of}
use Rattle.elan_program.specs.Spelling.{is_sign_byte}
use Rattle.elan_program.specs.Soundness.{is_sound}
use Rattle.elan_terms.specs.Valid.{IsValid}
use Rattle.elan_terms.proofs.Lists.{AllOf, all_of, all_from, all_append}
use Rattle.elan_print.specs.Tokens.{Printed, spelled, opening, closing, minus, digits, bytes_of, space_unless, is_tight_before, is_tight_after, written}
use Rattle.elan_print.specs.Terms.{nested, shown_of, term_tokens, term_text}
use Rattle.elan_print.specs.Sides.{Sheet, put_all}
use Rattle.elan_print.proofs.Good.{IsGood, Spelling, a_word, a_pair, a_sign, spelling_of, good_term}
use Rattle.elan_print.proofs.Nesting.{FitsLike, nested_fits}
use Rattle.elan_print.proofs.Sides.{put_all-text}

abbrev IsSmall : ℕ → Type 0
IsSmall b = b < 128

letter_small : (b : ℕ) → is_letter b ≡ true → b < 128
letter_small b e = grind (arith, common_steps)

inner_small : (b : ℕ) → is_in class.Word b ≡ true → b < 128
unfolding is_in
inner_small b e = grind (arith, common_steps)

sign_small : (b : ℕ) → is_sign_byte b ≡ true → b < 128
sign_small b e = grind (arith, common_steps)

all_small : (bs : List ℕ) → AllIn (is_in class.Word) bs → AllOf IsSmall bs
all_small [] h = tt
all_small (b ∷ bs) h = (inner_small b h.0, all_small bs h.1)

spelling_small : (bytes : List ℕ) → Spelling bytes → AllOf IsSmall bytes
spelling_small _ (a_word b bs l h) = (letter_small b l, all_small bs h)
spelling_small _ (a_pair b c p x y) = (x, (y, tt))
spelling_small _ (a_sign b e) = (sign_small b e, tt)

decimal_small : (n : ℕ) → n < 2 ^ 63 → AllOf IsSmall (decimal n)
decimal_small n small = all_of IsSmall (decimal n) (All-from_ascii (decimal n) (IsAscii-decimal n (omega arith)))

part_small : (p : Printed) → IsGood p → AllOf IsSmall (bytes_of p)
part_small (spelled bytes) h = spelling_small bytes (spelling_of bytes h)
part_small opening h = (omega arith, tt)
part_small closing h = (omega arith, tt)
part_small minus h = (omega arith, tt)
part_small (digits bytes) h = subst (AllOf IsSmall) (sym h.2) (decimal_small h.0 h.1)

space_small : (b : Bool) → AllOf IsSmall (space_unless b)
space_small true = tt
space_small false = (omega arith, tt)

written_small : (tight : Bool) (ps : List Printed) → AllOf IsGood ps → AllOf IsSmall (written tight ps)
written_small tight [] h = tt
written_small tight (p ∷ ps) h =
    all_append IsSmall (space_unless (tight || is_tight_before p)) (bytes_of p ++ written (is_tight_after p) ps) (space_small (tight || is_tight_before p))
    (all_append IsSmall (bytes_of p) (written (is_tight_after p) ps) (part_small p h.0) (written_small (is_tight_after p) ps h.1))

pub good_tokens : (g : Signature) (t : Term) → is_sound g ≡ true → IsValid (shapes_of g) t → AllOf IsGood (term_tokens g t)
unfolding term_tokens shown_of
good_tokens g t sound valid = let k : FitsLike g t (nested g t) = nested_fits g sound t valid in good_term g sound (nested g t) k.0

pub text_ascii : (g : Signature) (t : Term) → is_sound g ≡ true → IsValid (shapes_of g) t → IsAscii (term_text g t)
unfolding term_text
text_ascii g t sound valid = IsAscii-from_all (term_text g t) (all_from IsSmall (term_text g t) (written_small true (term_tokens g t) (good_tokens g t sound valid)))

abbrev text_in : Sheet → List ℕ
text_in s = s.text

-- what is written on an empty sheet
pub whole_text : (g : Signature) (t : Term) (s e : Sheet) → e ≡ record { text = []; tight = true } → s ≡ put_all e (term_tokens g t) → text_in s ≡ term_text g t
unfolding term_text
whole_text g t s e empty is = ap text_in (is ∙ ap (λ x. put_all x (term_tokens g t)) empty) ∙ put_all-text (record { text = []; tight = true }) (term_tokens g t)

-- what is written behind other text
pub text_behind : (g : Signature) (t : Term) (text out : List ℕ) (tight : Bool) → record { text = out; tight = tight } ≡ put_all (record { text = text; tight = true }) (term_tokens g t) → out ≡ text ++ term_text g t
unfolding term_text
text_behind g t text out tight is = ap text_in is ∙ put_all-text (record { text = text; tight = true }) (term_tokens g t)
