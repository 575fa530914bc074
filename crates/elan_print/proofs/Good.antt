-- Which tokens are written: those that a spelling may have, parentheses, and integers in range.
use Rattle.std.proofs.Common.{◌≡◌, refl, sym, subst, ⊎_elim, ◌⊎◌, inl, inr, ℕ, suc, ◌<◌, ◌^◌, Bool, true, false, cond, not, ◌||◌, ◌&&◌, ℤ, pos, negsuc, Some, List, [], ◌∷◌, ◌++◌, slice_get, map, arith}
use Rattle.std.specs.Prelude.{decimal, unsigned_abs, codes}
use Rattle.std.specs.List.{list_all, list_any}
use Rattle.std.specs.Str.{bytes_eq}
use Rattle.std.proofs.lemmas.Slice.Eq.{bytes_eq-Decides}
use Rattle.elan_lexer.specs.Bytes.{is_letter, is_in, is_pair}
use Rattle.elan_lexer.specs.declared.bytes.Class.TheVariants as class
use Rattle.elan_lexer.specs.Pieces.{AllIn}
use Rattle.elan_terms.specs.declared.tree.OpId.{OpId}
use Rattle.elan_terms.specs.declared.tree.Term.{Term}
use Rattle.elan_program.specs.declared.signature.Piece.{Piece}
use Rattle.elan_program.specs.declared.signature.Piece.TheVariants.{Hole, Word}
use Rattle.elan_program.specs.declared.signature.Operator.{Operator}
use Rattle.elan_program.specs.declared.signature.Signature.{Signature}
use Rattle.elan_program.specs.Signature.{shapes_of}
use Rattle.elan_program.specs.Spelling.{is_word, is_in_word, reserved, long_signs, is_sign_byte, is_short_sign, is_name, is_spelled}
use Rattle.elan_program.specs.Soundness.{is_sound, are_spelled}
use Rattle.elan_reading.specs.declared.edge.Position.{Position}
use Rattle.elan_reading.specs.declared.edge.Position.TheVariants.{First, Later}
use Rattle.elan_reading.specs.declared.edge.Side.{Side}
use Rattle.elan_reading.specs.Edge.{is_injection, side_of, fits, tie_of}
use Rattle.elan_terms.specs.Valid.{IsNumber}
use Rattle.elan_terms.proofs.Lists.{AllOf, all_append}
use Rattle.elan_terms.proofs.Induction.{ind_term}
use Rattle.elan_terms.proofs.NodeLemmas.{throughout_app}
use Rattle.elan_terms.proofs.Sorting.{not_true}
use Rattle.elan_print.specs.Tokens.{Printed, spelled, opening, closing, minus, digits, integer}
use Rattle.elan_print.specs.Terms.{Shown, argument, filled, inside, applied, shown}
use Rattle.elan_reading.proofs.Sound.{both, SoundOperator, sound_at}
use Rattle.elan_print.proofs.Nesting.{NodeFits, FitsThroughout}
use Rattle.elan_print.proofs.Reading.{shown-app, shown-int}

-- a token of a spelling that may have it, a parenthesis, a sign, or the digits of a number in range
abbrev pub IsGood : Printed → Type 0
IsGood (spelled bytes) = is_spelled bytes ≡ true
IsGood opening = Unit {0}
IsGood closing = Unit {0}
IsGood minus = Unit {0}
IsGood (digits bytes) = (n : ℕ) × (n < 2 ^ 63) × (bytes ≡ decimal n)

-- ---- terms

abbrev AreGood : Shown → Type 0
AreGood a = AllOf IsGood a.tokens

good_argument : (o : Operator) (side : Side) (a : Shown) → AreGood a → AllOf IsGood (argument o side a)
good_argument o side a h = go (fits o side (tie_of a.first))
  where
    go : (b : Bool) → AllOf IsGood (cond b a.tokens (opening ∷ a.tokens ++ closing ∷ []))
    go true = h
    go false = (tt, all_append IsGood a.tokens (closing ∷ []) h (tt, tt))

good_filled : (o : Operator) (position : Position) (ps : List Piece) (below : List Shown) → are_spelled ps ≡ true → AllOf AreGood below → AllOf IsGood (filled o position ps below)
good_filled o position [] below e h = tt
good_filled o position (Word name ∷ ps) below e h =
    let k : (is_spelled name.bytes ≡ true) × (are_spelled ps ≡ true) = both (is_spelled name.bytes) (are_spelled ps) e in (k.0, good_filled o Later ps below k.1 h)
good_filled o position (Hole ∷ ps) [] e h = good_filled o Later ps [] e h
good_filled o position (Hole ∷ ps) (a ∷ below) e h =
    all_append IsGood (argument o (side_of position ps) a) (filled o Later ps below) (good_argument o (side_of position ps) a h.0) (good_filled o Later ps below e h.1)

good_inside : (below : List Shown) → AllOf AreGood below → AllOf IsGood (inside below)
good_inside [] h = tt
good_inside (a ∷ below) h = h.0

good_integer : (z : ℤ) → unsigned_abs z < 2 ^ 63 → AllOf IsGood (integer z)
good_integer (pos n) small = ((n, omega arith, refl), tt)
good_integer (negsuc n) small = (tt, ((suc n, omega arith, refl), tt))

module _ (g : Signature) (sound : is_sound g ≡ true) where
  good_applied : (op : OpId) (o : Operator) (below : List Shown) → slice_get g.operators op.0 ≡ Some o → AllOf AreGood below → AllOf IsGood (applied (Some o) below)
  good_applied op o below e h = go (is_injection o)
    where
      go : (b : Bool) → AllOf IsGood (cond b (inside below) (filled o First o.pieces below))
      go true = good_inside below h
      go false = let k : SoundOperator o = sound_at g sound op.0 o e in good_filled o First o.pieces below k.allowed h

  good_all : (ts : List Term) → AllOf (λ t. FitsThroughout g t → AreGood (shown g t)) ts → AllOf (FitsThroughout g) ts → AllOf AreGood (map (shown g) ts)
  good_all [] h k = tt
  good_all (t ∷ ts) h k = (h.0 k.0, good_all ts h.1 k.1)

  pub good_term : (t : Term) → FitsThroughout g t → let a = shown g t in AllOf IsGood a.tokens
  good_term = ind_term (λ t. FitsThroughout g t → AreGood (shown g t))
      (λ z h. subst AreGood (sym (shown-int g z)) (good_integer z h.0))
      (λ op ts h k.
      let f : NodeFits g op ts × AllOf (FitsThroughout g) ts = throughout_app (IsNumber (shapes_of g)) (NodeFits g) op ts k in
      subst AreGood (sym (shown-app g op ts))
      (subst (λ x. AllOf IsGood (applied x (map (shown g) ts))) (sym f.0.1) (good_applied op f.0.0 (map (shown g) ts) f.0.1 (good_all ts h f.1))))

-- ---- spellings

-- what a token of a spelling may be
pub data Spelling : List ℕ → Type 0 where
  a_word : (b : ℕ) (bs : List ℕ) → is_letter b ≡ true → AllIn (is_in class.Word) bs → Spelling (b ∷ bs)
  a_pair : (b c : ℕ) → is_pair b c ≡ true → b < 128 → c < 128 → Spelling (b ∷ c ∷ [])
  a_sign : (b : ℕ) → is_sign_byte b ≡ true → Spelling (b ∷ [])

each_in : (bs : List ℕ) → list_all is_in_word bs ≡ true → AllIn (is_in class.Word) bs
unfolding is_in
each_in [] e = tt
each_in (b ∷ bs) e = let k : (is_in_word b ≡ true) × (list_all is_in_word bs ≡ true) = both (is_in_word b) (list_all is_in_word bs) e in (k.0, each_in bs k.1)

one : (a b : Bool) → a || b ≡ true → (a ≡ true) ⊎ (b ≡ true)
one true b e = inl refl
one false b e = inr e

word_spelling : (bytes : List ℕ) → is_word bytes ≡ true → Spelling bytes
word_spelling [] e = not_true (sym e)
word_spelling (b ∷ bs) e = let k : (is_letter b ≡ true) × (list_all is_in_word bs ≡ true) = both (is_letter b) (list_all is_in_word bs) e in a_word b bs k.0 (each_in bs k.1)

sign_spelling : (bytes : List ℕ) → is_short_sign bytes ≡ true → Spelling bytes
sign_spelling [] e = not_true (sym e)
sign_spelling (b ∷ []) e = a_sign b e
sign_spelling (b ∷ c ∷ bs) e = not_true (sym e)

pair_spelling : (bytes : List ℕ) → list_any (bytes_eq bytes) long_signs ≡ true → Spelling bytes
unfolding long_signs
pair_spelling bytes e = ⊎_elim (λ h. at (codes "==") h (a_pair 61 61 refl (omega arith) (omega arith)))
    (λ r. ⊎_elim (λ h. at (codes "!=") h (a_pair 33 61 refl (omega arith) (omega arith)))
    (λ q. ⊎_elim (λ h. at (codes "<=") h (a_pair 60 61 refl (omega arith) (omega arith)))
    (λ p. ⊎_elim (λ h. at (codes ">=") h (a_pair 62 61 refl (omega arith) (omega arith))) (λ n. not_true (sym n)) (one (bytes_eq bytes (codes ">=")) false p))
    (one (bytes_eq bytes (codes "<=")) _ q))
    (one (bytes_eq bytes (codes "!=")) _ r))
    (one (bytes_eq bytes (codes "==")) _ e)
  where
    at : (text : List ℕ) → bytes_eq bytes text ≡ true → Spelling text → Spelling bytes
    at text h s = subst Spelling (sym (same h)) s
      where
        same : bytes_eq bytes text ≡ true → bytes ≡ text
        same h = let d = bytes_eq-Decides bytes text in d.0 h

pub spelling_of : (bytes : List ℕ) → is_spelled bytes ≡ true → Spelling bytes
unfolding is_spelled is_name
spelling_of bytes e = ⊎_elim
    (λ n. word_spelling bytes (both (is_word bytes) (not (list_any (bytes_eq bytes) reserved)) n).0)
    (λ s. ⊎_elim (λ p. pair_spelling bytes p) (λ q. sign_spelling bytes q) (one (list_any (bytes_eq bytes) long_signs) (is_short_sign bytes) s))
    (one (is_word bytes && not (list_any (bytes_eq bytes) reserved)) (list_any (bytes_eq bytes) long_signs || is_short_sign bytes) e)
