-- A text is cut exactly, piece by piece.
use Rattle.std.proofs.Common.{◌≡◌, ℕ, zero, suc, ◌≤◌, ◌<◌, List, [], ◌∷◌, ◌++◌, append_assoc, length, take, drop, Option, Some, None, Ok, Err, refl, sym, ap, subst, ◌∙◌, inl, inr, arith}
use Rattle.std.proofs.lemmas.List.{take_at, drop_at, length-append, take-append-drop, append-nil}
use Rattle.elan_lexer.specs.declared.token.Kind.{Kind}
use Rattle.elan_lexer.specs.declared.token.Kind.TheVariants.{Word, Number, Sign}
use Rattle.elan_lexer.specs.declared.fault.Fault.{Fault}
use Rattle.elan_lexer.specs.declared.fault.Fault.TheVariants.{BadByte, Unclosed, TooLarge}
use Rattle.elan_lexer.specs.declared.places.Spot.{Spot}
use Rattle.elan_lexer.specs.declared.token.Token.{Token}
use Rattle.std.specs.Prelude.{slice_index}
use Rattle.elan_lexer.specs.Pieces.{IsPiece, IsFault}
use Rattle.elan_lexer.specs.Places.{moved}
use Rattle.elan_lexer.specs.Cut.{Cut, piece}
use Rattle.elan_lexer.specs.Text.{Piece, Spells, token_of, tokens_of, spot_after}
use Rattle.elan_lexer.specs.Lex.{Lexed, with_front, next_piece, lex}
use Rattle.elan_lexer.proofs.Fronts.{Front, front, piece_cut, front_says}

-- a piece has a byte at least
pub some_byte : (c : Option Kind) (text rest : List ℕ) → IsPiece c text rest → 0 < length text
some_byte None text rest (inl (b, w, e)) = rw e (omega arith)
some_byte None text rest (inr (inl (body, a, s, e))) = rw e (omega arith)
some_byte None text rest (inr (inr (body, o, e))) = rw e (omega arith)
some_byte (Some Word) text rest (b, bs, l, a, s, e) = rw e (omega arith)
some_byte (Some Number) text rest ((b, bs, l, a, s, e), le) = rw e (omega arith)
some_byte (Some Sign) text rest (inl (b, c, p, e)) = rw e (omega arith)
some_byte (Some Sign) text rest (inr (b, v, p, c, e)) = rw e (omega arith)

pub some_fault : (f : Fault) → IsFault f [] → ⊥
some_fault BadByte (b, bs, w, v, e) = cc
some_fault Unclosed (bs, o, e) = cc
some_fault TooLarge (text, rest, (b, bs, d, a, s, e2), lt, e) = let e3 : [] ≡ b ∷ bs ++ rest = e
    ∙ ap (λ z. z ++ rest) e2 in cc

pub lex_front : (n : ℕ) (s : Spot) (bytes : List ℕ) → 0 < length bytes →
    lex (suc n) s bytes ≡ next_piece (front bytes) s bytes (lex n)
unfolding lex
lex_front n s [] lt = absurd (omega arith)
lex_front n s (b ∷ bs) lt = refl

-- what is spelled so is read so
pub lex_spelled : (n : ℕ) (s : Spot) (ps : List Piece) (bytes : List ℕ) → length bytes ≤ n → Spells ps bytes [] →
    lex n s bytes ≡ Ok (tokens_of s ps)
unfolding lex
lex_spelled n s [] bytes le h = ap (lex n s) h
lex_spelled zero s (p ∷ ps) bytes le (rest, h, more, e) =
    let e2 : length bytes ≡ length (p.text ++ rest) = ap length e in
    absurd (omega (arith, some_byte p.kind p.text rest h, length-append p.text rest))
lex_spelled (suc n) s (p ∷ ps) bytes le (rest, h, more, e) =
    let e2 : length bytes ≡ length (p.text ++ rest) = ap length e in
    let some = some_byte p.kind p.text rest h in
    let len = length-append p.text rest in
    let again : lex n (moved s p.text) rest ≡ Ok (tokens_of (moved s p.text) ps) =
    lex_spelled n (moved s p.text) ps rest (omega arith) more in
    ap (lex (suc n) s) e ∙ lex_front n s (p.text ++ rest) (omega arith)
    ∙ ap (λ z. next_piece z s (p.text ++ rest) (lex n)) (piece_cut p.kind p.text rest h)
    ∙ rw (take_at p.text rest (length p.text) refl, drop_at p.text rest (length p.text) refl, again) refl

-- what the tokens or the refusal say of a text
abbrev pub Says : Spot → List ℕ → Lexed → Type 0
Says s bytes (Ok tokens) = (ps : List Piece) × Spells ps bytes [] × (tokens ≡ tokens_of s ps)
Says s bytes (Err e) = (ps : List Piece) × (rest : List ℕ) × Spells ps bytes rest × IsFault e.0 rest
    × (e.1 ≡ (spot_after s ps).at)

add_front : (c : Option Kind) (s : Spot) (text rest : List ℕ) (t : Lexed) → IsPiece c text rest →
    Says (moved s text) rest t → Says s (text ++ rest) (with_front (token_of c s (moved s text)) t)
add_front c s text rest (Ok tokens) h (ps, m, e) =
    (record { kind = c; text = text } ∷ ps, (rest, h, m, refl), ap (λ z. token_of c s (moved s text) ++ z) e)
add_front c s text rest (Err x) h (ps, r, m, f, e) =
    (record { kind = c; text = text } ∷ ps, r, (rest, h, m, refl), f, e)

pub lex_says : (n : ℕ) (s : Spot) (bytes : List ℕ) → length bytes ≤ n → Says s bytes (lex n s bytes)
unfolding lex
lex_says n s [] le = ([], refl, refl)
lex_says zero s (b ∷ bs) le = absurd (omega arith)
lex_says (suc n) s (b ∷ bs) le = go (λ x ys l. lex_says n x ys l) (piece b bs) (front_says b bs)
  where
    go : ((x : Spot) (ys : List ℕ) → length ys ≤ n → Says x ys (lex n x ys)) → (r : Cut) → Front (b ∷ bs) r →
        Says s (b ∷ bs) (next_piece r s (b ∷ bs) (lex n))
    go again (Err f) h = ([], b ∷ bs, refl, h, refl)
    go again (Ok (c, k)) h =
        let parts = take-append-drop k (b ∷ bs) in
        let e2 : length (take k (b ∷ bs) ++ drop k (b ∷ bs)) ≡ suc (length bs) = ap length parts in
        let some = some_byte c (take k (b ∷ bs)) (drop k (b ∷ bs)) h in
        let len = length-append (take k (b ∷ bs)) (drop k (b ∷ bs)) in
        subst (λ z. Says s z (next_piece (Ok (c, k)) s (b ∷ bs) (lex n))) parts
        (add_front c s (take k (b ∷ bs)) (drop k (b ∷ bs)) (lex n (moved s (take k (b ∷ bs))) (drop k (b ∷ bs))) h
        (again (moved s (take k (b ∷ bs))) (drop k (b ∷ bs)) (omega arith)))

-- enough turns are enough
pub lex_enough : (a b : ℕ) (s : Spot) (bytes : List ℕ) → length bytes ≤ a → length bytes ≤ b →
    lex a s bytes ≡ lex b s bytes
unfolding lex
lex_enough a b s [] la lb = refl
lex_enough zero b s (x ∷ xs) la lb = absurd (omega arith)
lex_enough (suc a) zero s (x ∷ xs) la lb = absurd (omega arith)
lex_enough (suc a) (suc b) s (x ∷ xs) la lb = go (λ t ys l l2. lex_enough a b t ys l l2) (piece x xs) (front_says x xs)
  where
    go : ((t : Spot) (ys : List ℕ) → length ys ≤ a → length ys ≤ b → lex a t ys ≡ lex b t ys) → (r : Cut) →
        Front (x ∷ xs) r → next_piece r s (x ∷ xs) (lex a) ≡ next_piece r s (x ∷ xs) (lex b)
    go again (Err f) h = refl
    go again (Ok (c, k)) h =
        let parts : length (take k (x ∷ xs) ++ drop k (x ∷ xs)) ≡ suc (length xs) =
        ap length (take-append-drop k (x ∷ xs)) in
        let some = some_byte c (take k (x ∷ xs)) (drop k (x ∷ xs)) h in
        let len = length-append (take k (x ∷ xs)) (drop k (x ∷ xs)) in
        ap (with_front (token_of c s (moved s (take k (x ∷ xs)))))
        (again (moved s (take k (x ∷ xs))) (drop k (x ∷ xs)) (omega arith) (omega arith))

pub lex_step : (s : Spot) (b : ℕ) (bs : List ℕ) (c : Option Kind) (k : ℕ) → piece b bs ≡ Ok (c, k) →
    lex (length (b ∷ bs)) s (b ∷ bs) ≡ with_front (token_of c s (moved s (take k (b ∷ bs))))
    (lex (length (drop k (b ∷ bs))) (moved s (take k (b ∷ bs))) (drop k (b ∷ bs)))
unfolding lex
lex_step s b bs c k e =
    let h : IsPiece c (take k (b ∷ bs)) (drop k (b ∷ bs)) = subst (Front (b ∷ bs)) e (front_says b bs) in
    let parts : length (take k (b ∷ bs) ++ drop k (b ∷ bs)) ≡ suc (length bs) =
    ap length (take-append-drop k (b ∷ bs)) in
    let some = some_byte c (take k (b ∷ bs)) (drop k (b ∷ bs)) h in
    let len = length-append (take k (b ∷ bs)) (drop k (b ∷ bs)) in
    ap (λ z. next_piece z s (b ∷ bs) (lex (length bs))) e
    ∙ ap (with_front (token_of c s (moved s (take k (b ∷ bs)))))
    (lex_enough (length bs) (length (drop k (b ∷ bs))) (moved s (take k (b ∷ bs))) (drop k (b ∷ bs)) (omega arith)
    (omega arith))

pub lex_fault : (s : Spot) (b : ℕ) (bs : List ℕ) (f : Fault) → piece b bs ≡ Err f →
    lex (length (b ∷ bs)) s (b ∷ bs) ≡ Err (f, s.at)
unfolding lex
lex_fault s b bs f e = ap (λ z. next_piece z s (b ∷ bs) (lex (length bs))) e

pub with_front_append : (xs ys : List Token) (t : Lexed) → with_front (xs ++ ys) t ≡ with_front xs (with_front ys t)
with_front_append xs ys (Ok zs) = ap (λ z. Ok z) (append_assoc xs ys zs)
with_front_append xs ys (Err e) = refl

pub with_front_none : (t : Lexed) → with_front [] t ≡ t
with_front_none (Ok zs) = refl
with_front_none (Err e) = refl

pub lex_none : (n : ℕ) (s : Spot) → lex n s [] ≡ Ok []
unfolding lex
lex_none n s = refl

-- one turn of the loop: what was found, with what follows, is the whole
pub turn : (found : List Token) (s : Spot) (b : ℕ) (bs : List ℕ) (c : Option Kind) (k : ℕ) (whole : Lexed) →
    piece b bs ≡ Ok (c, k) →
    with_front found (lex (length (b ∷ bs)) s (b ∷ bs)) ≡ whole →
    with_front (found ++ token_of c s (moved s (take k (b ∷ bs))))
    (lex (length (drop k (b ∷ bs))) (moved s (take k (b ∷ bs))) (drop k (b ∷ bs))) ≡ whole
turn found s b bs c k whole e inv =
    with_front_append found (token_of c s (moved s (take k (b ∷ bs))))
    (lex (length (drop k (b ∷ bs))) (moved s (take k (b ∷ bs))) (drop k (b ∷ bs)))
    ∙ ap (with_front found) (sym (lex_step s b bs c k e)) ∙ inv

pub last_turn : (found : List Token) (n : ℕ) (s : Spot) (whole : Lexed) → with_front found (lex n s []) ≡ whole →
    whole ≡ Ok found
last_turn found n s whole inv = sym inv ∙ ap (with_front found) (lex_none n s) ∙ ap (λ z. Ok z) (append-nil found)

pub fault_turn : (found : List Token) (s : Spot) (b : ℕ) (bs : List ℕ) (f : Fault) (whole : Lexed) →
    piece b bs ≡ Err f →
    with_front found (lex (length (b ∷ bs)) s (b ∷ bs)) ≡ whole → whole ≡ Err (f, s.at)
fault_turn found s b bs f whole e inv = sym inv ∙ ap (with_front found) (lex_fault s b bs f e)

-- the same of a text that is known to have a byte
pub turn_at : (found : List Token) (s : Spot) (left : List ℕ) (c : Option Kind) (k : ℕ) (whole : Lexed) →
    0 < length left → piece (slice_index left 0) (drop 1 left) ≡ Ok (c, k) →
    with_front found (lex (length left) s left) ≡ whole →
    with_front (found ++ token_of c s (moved s (take k left)))
    (lex (length (drop k left)) (moved s (take k left)) (drop k left)) ≡ whole
turn_at found s [] c k whole lt e inv = absurd (omega arith)
turn_at found s (b ∷ bs) c k whole lt e inv = turn found s b bs c k whole e inv

pub fault_at : (found : List Token) (s : Spot) (left : List ℕ) (f : Fault) (whole : Lexed) → 0 < length left →
    piece (slice_index left 0) (drop 1 left) ≡ Err f →
    with_front found (lex (length left) s left) ≡ whole → whole ≡ Err (f, s.at)
fault_at found s [] f whole lt e inv = absurd (omega arith)
fault_at found s (b ∷ bs) f whole lt e inv = fault_turn found s b bs f whole e inv

pub last_at : (found : List Token) (s : Spot) (left : List ℕ) (whole : Lexed) → length left < 1 →
    with_front found (lex (length left) s left) ≡ whole → whole ≡ Ok found
last_at found s [] whole lt inv = last_turn found 0 s whole inv
last_at found s (b ∷ bs) whole lt inv = absurd (omega arith)
