-- The readings of a text by their places, case by case. A run goes from a place up to another one.
use Rattle.std.specs.Prelude.{◌≡◌, ℕ, suc, ◌<◌, Bool, true, false, Option, None, Some, List, [], ◌∷◌, length, slice_get}
use Rattle.std.specs.Str.{bytes_eq}
use Rattle.elan_terms.specs.declared.tree.OpId.{OpId}
use Rattle.elan_terms.specs.declared.tree.SortId.{SortId}
use Rattle.elan_terms.specs.declared.tree.Pattern.{Pattern}
use Rattle.elan_program.specs.declared.signature.Operator.{Operator}
use Rattle.elan_program.specs.declared.signature.Signature.{Signature}
use Rattle.elan_reading.specs.declared.lexeme.Lexeme.{Lexeme}
use Rattle.elan_reading.specs.declared.lexeme.Variable.{Variable}
use Rattle.elan_entries.specs.declared.found.Key.{Key}
use Rattle.elan_entries.specs.declared.found.Key.TheVariants.{Whole, Rest}
use Rattle.elan_program.specs.Extension.{var_pattern, int_pattern, app_pattern}
use Rattle.elan_reading.specs.Edge.{is_injection, own_tie}
use Rattle.elan_entries.specs.Lexemes.{is_word_kind, is_number_kind, is_sign, integer}
use Rattle.elan_entries.specs.Pieces.{fits_hole, is_word_at, is_injection_from}

module _ (g : Signature) (vs : List Variable) (tokens : List Lexeme) where
  mutual
    -- a reading of a run at a sort: the priority that the edge rule looks at, where it does; whether the outermost node is
    -- an injection; and the tree
    pub data Reads : ℕ → ℕ → SortId → Option ℕ → Bool → Pattern → Type 0 where
      variable : (i n : ℕ) (token : Lexeme) (v : Variable) → slice_get tokens i ≡ Some token → is_word_kind token.kind ≡ true
          → bytes_eq v.name.bytes token.text ≡ true → slice_get vs n ≡ Some v → Reads i (suc i) v.sort None false (var_pattern v.number v.sort)
      number : (i : ℕ) (token : Lexeme) (s : SortId) → slice_get tokens i ≡ Some token → is_number_kind token.kind ≡ true → g.int ≡ Some s
          → Reads i (suc i) s None false (int_pattern (integer false token.text))
      minus : (i : ℕ) (first token : Lexeme) (s : SortId) → slice_get tokens i ≡ Some first → is_sign 45 first ≡ true
          → slice_get tokens (suc i) ≡ Some token → is_number_kind token.kind ≡ true → g.int ≡ Some s
          → Reads i (suc (suc i)) s None false (int_pattern (integer true token.text))
      operator : (i j : ℕ) (op : OpId) (o : Operator) (ts : List Pattern) → slice_get g.operators op.0 ≡ Some o → is_injection o ≡ false
          → Fills o i j 0 0 ts → Reads i j o.sort (own_tie o) false (app_pattern op ts)
      injection : (i j : ℕ) (op : OpId) (o : Operator) (s : SortId) (tie : Option ℕ) (injected : Bool) (t : Pattern)
          → slice_get g.operators op.0 ≡ Some o → is_injection_from o s ≡ true → Reads i j s tie injected t
          → Reads i j o.sort tie true (app_pattern op (t ∷ []))
      group : (i j : ℕ) (first last : Lexeme) (s : SortId) (tie : Option ℕ) (injected : Bool) (t : Pattern)
          → slice_get tokens i ≡ Some first → is_sign 40 first ≡ true → slice_get tokens j ≡ Some last → is_sign 41 last ≡ true
          → Reads (suc i) j s tie injected t → Reads i (suc j) s None injected t

    -- a run that is cut by the pieces from one on, whose arguments begin with one
    pub data Fills : Operator → ℕ → ℕ → ℕ → ℕ → List Pattern → Type 0 where
      done : (o : Operator) (i k h : ℕ) → k ≡ length o.pieces → h ≡ length o.args → Fills o i i k h []
      word : (o : Operator) (i j k h : ℕ) (token : Lexeme) (ts : List Pattern) → slice_get tokens i ≡ Some token → is_word_at o k token ≡ true
          → Fills o (suc i) j (suc k) h ts → Fills o i j k h ts
      hole : (o : Operator) (i m j k h : ℕ) (s : SortId) (tie : Option ℕ) (injected : Bool) (t : Pattern) (ts : List Pattern)
          → i < m → fits_hole o (suc k) (suc h) s tie ≡ true → Reads i m s tie injected t → Fills o m j (suc k) (suc h) ts
          → Fills o i j k h (t ∷ ts)

  -- what a key says of a run: a tree that it is read as, or arguments for the pieces that are left
  abbrev pub Set : ℕ → ℕ → Key → List Pattern → Type 0
  Set i j (Whole s tie injected) ts = (t : Pattern) × (ts ≡ t ∷ []) × Reads i j s tie injected t
  Set i j (Rest op k h) ts = (o : Operator) × (slice_get g.operators op.0 ≡ Some o) × Fills o i j k h ts
