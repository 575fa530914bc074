-- A text has one answer: its tokens or its refusal.
use Rattle.std.proofs.Common.{◌≡◌, ℕ, zero, suc, ◌≤◌, ◌⊎◌, inl, inr, List, [], ◌∷◌, ◌++◌, length, Ok, Err, refl, sym, ap, subst, ◌∙◌, arith}
use Rattle.std.proofs.lemmas.List.{take_at, drop_at, length-append}
use Rattle.elan_text.specs.declared.refusal.Code.{Code}
use Rattle.elan_text.specs.declared.refusal.Place.{Place}
use Rattle.elan_text.specs.declared.refusal.Stop.{Stop}
use Rattle.elan_text.specs.declared.refusal.Stop.TheVariants.{Refused, NoMemory}
use Rattle.elan_lexer.specs.declared.fault.Fault.{Fault}
use Rattle.elan_lexer.specs.declared.places.Spot.{Spot}
use Rattle.elan_lexer.specs.declared.token.Token.{Token}
use Rattle.elan_lexer.specs.Pieces.{IsFault, code_of}
use Rattle.elan_lexer.specs.Places.{start, moved}
use Rattle.elan_lexer.specs.Text.{Piece, Spells, spot_after, Fits, Refuses, IsRefusal}
use Rattle.elan_lexer.specs.Lex.{Lexed, next_piece, lex, lexed, Meets}
use Rattle.elan_lexer.proofs.Fronts.{piece_cut, fault_cut}
use Rattle.elan_lexer.proofs.Texts.{some_byte, some_fault, lex_front, lex_spelled, lex_says, Says}

-- what is refused so is met so
pub lex_refused : (n : ℕ) (s : Spot) (ps : List Piece) (bytes rest : List ℕ) (f : Fault) → length bytes ≤ n →
    Spells ps bytes rest → IsFault f rest → lex n s bytes ≡ Err (f, (spot_after s ps).at)
lex_refused n s [] bytes [] f le h fault = absurd (some_fault f fault)
lex_refused zero s [] bytes (b ∷ bs) f le h fault =
    let e : length bytes ≡ suc (length bs) = ap length h in absurd (omega arith)
lex_refused (suc n) s [] bytes (b ∷ bs) f le h fault =
    ap (lex (suc n) s) h ∙ lex_front n s (b ∷ bs) (omega arith)
    ∙ ap (λ z. next_piece z s (b ∷ bs) (lex n)) (fault_cut f (b ∷ bs) fault)
lex_refused zero s (p ∷ ps) bytes rest f le (after, h, more, e) fault =
    let e2 : length bytes ≡ length (p.text ++ after) = ap length e in
    absurd (omega (arith, some_byte p.kind p.text after h, length-append p.text after))
lex_refused (suc n) s (p ∷ ps) bytes rest f le (after, h, more, e) fault =
    let e2 : length bytes ≡ length (p.text ++ after) = ap length e in
    let some = some_byte p.kind p.text after h in
    let len = length-append p.text after in
    let again : lex n (moved s p.text) after ≡ Err (f, (spot_after (moved s p.text) ps).at) =
    lex_refused n (moved s p.text) ps after rest f (omega arith) more fault in
    ap (lex (suc n) s) e ∙ lex_front n s (p.text ++ after) (omega arith)
    ∙ ap (λ z. next_piece z s (p.text ++ after) (lex n)) (piece_cut p.kind p.text after h)
    ∙ rw (take_at p.text after (length p.text) refl, drop_at p.text after (length p.text) refl, again) refl

lexed_fits : (bytes : List ℕ) (found : List Token) → Fits bytes found → lexed bytes ≡ Ok found
lexed_fits bytes found (ps, h, e) = lex_spelled (length bytes) start ps bytes (omega arith) h ∙ ap (λ z. Ok z) (sym e)

-- a refused text meets the fault of that code at that place
abbrev Met : List ℕ → Code → Place → Type 0
Met bytes code at = (fault : Fault) × (lexed bytes ≡ Err (fault, at)) × (code ≡ code_of fault)

lexed_refuses : (bytes : List ℕ) (code : Code) (at : Place) → Refuses bytes code at → Met bytes code at
lexed_refuses bytes code at (ps, rest, fault, h, f, c, e) = (
  fault,
  lex_refused (length bytes) start ps bytes rest fault (omega arith) h f
      ∙ ap (λ z. Err (fault, z)) (sym e),
  c,
)

pub apart : (bytes : List ℕ) (found : List Token) (code : Code) (at : Place) → Fits bytes found →
    Refuses bytes code at → ⊥
apart bytes found code at f r = two (lexed bytes) (lexed_fits bytes found f) (lexed_refuses bytes code at r).1
  where
    two : {x : Fault × Place} (l : Lexed) → l ≡ Ok found → l ≡ Err x → ⊥
    two l one other = cc

pub fits_once : (bytes : List ℕ) (one two : List Token) → Fits bytes one → Fits bytes two → one ≡ two
fits_once bytes one two f g = same (lexed bytes) (lexed_fits bytes one f) (lexed_fits bytes two g)
  where
    same : (l : Lexed) → l ≡ Ok one → l ≡ Ok two → one ≡ two
    same l a b = cc

err_is : (x y : Fault × Place) → (let a : Lexed = Err x in a) ≡ Err y → x ≡ y
err_is x y e = cc

pub refuses_once : (bytes : List ℕ) (one two : Code) (here there : Place) → Refuses bytes one here →
    Refuses bytes two there → (one ≡ two) × (here ≡ there)
refuses_once bytes one two here there r q =
    go (lexed bytes) (lexed_refuses bytes one here r) (lexed_refuses bytes two there q)
  where
    go : (l : Lexed) → (f : Fault) × (l ≡ Err (f, here)) × (one ≡ code_of f) → (f : Fault) × (l ≡ Err (f, there))
        × (two ≡ code_of f) → (one ≡ two) × (here ≡ there)
    go l (f, a, c) (g, b, d) =
        let e = err_is (f, here) (g, there) (sym a ∙ b) in
        (c ∙ ap (λ z. code_of z.0) e ∙ sym d, ap (λ z. z.1) e)

pub fits : (bytes : List ℕ) (found : List Token) → lexed bytes ≡ Ok found → Fits bytes found
fits bytes found e = subst (Says start bytes) e (lex_says (length bytes) start bytes (omega arith))

pub refuses : (bytes : List ℕ) (f : Fault) (at : Place) → lexed bytes ≡ Err (f, at) → Refuses bytes (code_of f) at
refuses bytes f at e = go (subst (Says start bytes) e (lex_says (length bytes) start bytes (omega arith)))
  where
    go : Says start bytes (Err (f, at)) → Refuses bytes (code_of f) at
    go (ps, rest, h, fault, e2) = (ps, rest, f, h, fault, refl, e2)

abbrev pub HasAnswer : List ℕ → Type 0
HasAnswer bytes = ((found : List Token) × Fits bytes found) ⊎ ((code : Code) × (at : Place) × Refuses bytes code at)

pub answered : (bytes : List ℕ) → HasAnswer bytes
answered bytes = go (lexed bytes) refl
  where
    go : (l : Lexed) → lexed bytes ≡ l → HasAnswer bytes
    go (Ok found) e = inl (found, fits bytes found e)
    go (Err (f, at)) e = inr (code_of f, at, refuses bytes f at e)

pub meets_refusal : (bytes : List ℕ) (e : Stop) → Meets (lexed bytes) e → IsRefusal bytes e
meets_refusal bytes (Refused r) (f, met, c, m) =
    (subst (λ z. Refuses bytes z r.at) (sym c) (refuses bytes f r.at met), m)
meets_refusal bytes NoMemory m = tt

pub only_one : (bytes : List ℕ) (found : List Token) → lexed bytes ≡ Ok found → (others : List Token) →
    Fits bytes others → others ≡ found
only_one bytes found e others f = fits_once bytes others found f (fits bytes found e)
