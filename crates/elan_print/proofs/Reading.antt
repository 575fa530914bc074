-- The tokens of a term whose nodes are nested have it as a reading.
use Rattle.std.proofs.Common.{◌≡◌, refl, sym, ap, ◌∙◌, subst, ⊎_elim, rules, ℕ, suc, ◌<◌, ◌^◌, Bool, true, false, cond, ◌||◌, ℤ, pos, negsuc, Some, None, List, [], ◌∷◌, ◌++◌, length, slice_get, map, arith}
use Rattle.std.specs.Prelude.{decimal, unsigned_abs, neg_ℤ}
use Rattle.std.specs.List.{AllZip}
use Rattle.std.specs.Str.{all_ascii_digits}
use Rattle.std.proofs.lemmas.Str.Parse.{IsNumeralModel, numerals_by_fold}
use Rattle.std.proofs.lemmas.Fmt.{digits_value-decimal}
use Rattle.elan_lexer.specs.Bytes.{value, value_from}
use Rattle.elan_terms.specs.declared.tree.OpId.{OpId}
use Rattle.elan_terms.specs.declared.tree.SortId.{SortId}
use Rattle.elan_terms.specs.declared.tree.Term.{Term}
use Rattle.elan_terms.specs.declared.tree.Pattern.{Pattern}
use Rattle.elan_terms.specs.Trees.{int_term, app_term}
use Rattle.elan_terms.proofs.TreeLemmas.{fold_term-app, fold_pattern-app}
use Rattle.elan_terms.proofs.MatchLemmas.{sort_of-int}
use Rattle.elan_program.specs.declared.signature.Piece.{Piece}
use Rattle.elan_program.specs.declared.signature.Piece.TheVariants.{Hole, Word}
use Rattle.elan_program.specs.declared.signature.Operator.{Operator}
use Rattle.elan_program.specs.declared.signature.Signature.{Signature}
use Rattle.elan_program.specs.Signature.{shapes_of}
use Rattle.elan_program.specs.Soundness.{is_sound, holes}
use Rattle.elan_program.specs.Extension.{int_pattern, app_pattern}
use Rattle.elan_meaning.specs.Meaning.{pattern_of}
use Rattle.elan_reading.specs.declared.lexeme.Variable.{Variable}
use Rattle.elan_reading.specs.declared.edge.Position.{Position}
use Rattle.elan_reading.specs.declared.edge.Position.TheVariants.{First, Later}
use Rattle.elan_reading.specs.declared.edge.Side.{Side}
use Rattle.elan_reading.specs.Edge.{is_one_hole, is_injection, side_of, tie_of, fits}
use Rattle.elan_reading.specs.Readings.{Reads, Fills, number, minus, operator, injection, group, done, word, hole, head, passed}
use Rattle.elan_reading.proofs.ReadingLemmas.{taken}
use Rattle.elan_terms.specs.Valid.{HasSort, IsNumber}
use Rattle.elan_terms.proofs.Lists.{AllOf}
use Rattle.elan_terms.proofs.Induction.{ind_term}
use Rattle.elan_terms.proofs.NodeLemmas.{throughout_app}
use Rattle.elan_terms.proofs.Sorting.{not_true}
use Rattle.elan_laws.proofs.CanonicalLaws.{true_or_false}
use Rattle.elan_print.specs.Tokens.{Printed, spelled, opening, closing, token_of, integer}
use Rattle.elan_print.specs.Terms.{Shown, argument, filled, inside, applied, shown_app, shown_int, shown}
use Rattle.elan_reading.proofs.Sound.{some_is, SoundOperator, sound_at}
use Rattle.elan_print.proofs.SortLemmas.{sort_at}
use Rattle.elan_print.proofs.Nesting.{NodeFits, FitsThroughout}

-- ---- the equations

module _ (g : Signature) where
  pub shown-app : (op : OpId) (ts : List Term) → shown g (app_term op ts) ≡ shown_app g op (map (shown g) ts)
  unfolding shown
  shown-app op ts = fold_term-app shown_int (shown_app g) op ts

  pub shown-int : (z : ℤ) → shown g (int_term z) ≡ shown_int z
  unfolding shown
  shown-int z = refl

  pub head-app : (op : OpId) (ps : List Pattern) → head g (app_pattern op ps) ≡ passed g (slice_get g.operators op.0) (map (head g) ps)
  unfolding head
  head-app op ps = fold_pattern-app (λ _ _. None) (λ _. None) (λ op below. passed g (slice_get g.operators op.0) below) op ps

pub pattern-app : (op : OpId) (ts : List Term) → pattern_of (app_term op ts) ≡ app_pattern op (map pattern_of ts)
unfolding pattern_of
pattern-app op ts = fold_term-app int_pattern app_pattern op ts

pub pattern-int : (z : ℤ) → pattern_of (int_term z) ≡ int_pattern z
unfolding pattern_of
pattern-int z = refl

-- ---- first nodes

module _ (g : Signature) where
  head-int : (z : ℤ) → head g (int_pattern z) ≡ None
  unfolding head
  head-int z = refl

  heads : (ts : List Term) → AllOf (λ t. let s = shown g t in s.first ≡ head g (pattern_of t)) ts → map (λ s. s.first) (map (shown g) ts) ≡ map (head g) (map pattern_of ts)
  heads [] h = refl
  heads (t ∷ ts) h = ap (λ o. o ∷ map (λ s. s.first) (map (shown g) ts)) h.0 ∙ ap (λ os. head g (pattern_of t) ∷ os) (heads ts h.1)

  -- the first node of a term is that of its pattern
  pub first-head : (t : Term) → let s = shown g t in s.first ≡ head g (pattern_of t)
  first-head = ind_term (λ t. let s = shown g t in s.first ≡ head g (pattern_of t))
      (λ z. ap (λ s. s.first) (shown-int g z) ∙ sym (ap (head g) (pattern-int z) ∙ head-int z))
      (λ op ts h. ap (λ s. s.first) (shown-app g op ts) ∙ ap (passed g (slice_get g.operators op.0)) (heads ts h)
      ∙ sym (ap (head g) (pattern-app op ts) ∙ head-app g op (map pattern_of ts)))

-- ---- integers

pub numerals : IsNumeralModel (λ ds. all_ascii_digits ds ≡ true) value
numerals = numerals_by_fold _ (search rules) value_from (search rules)

-- the value of the digits of a number is the number
pub value-decimal : (n : ℕ) → n < 2 ^ 64 → value (decimal n) ≡ n
value-decimal n small = digits_value-decimal numerals n small

-- ---- lists

tokens-append : (xs ys : List Printed) → map token_of (xs ++ ys) ≡ map token_of xs ++ map token_of ys
tokens-append [] ys = refl
tokens-append (x ∷ xs) ys = ap (λ l. token_of x ∷ l) (tokens-append xs ys)

one_hole : (ps : List Piece) → is_one_hole ps ≡ true → holes ps ≡ 1
one_hole [] e = not_true (sym e)
one_hole (Hole ∷ []) e = refl
one_hole (Word name ∷ []) e = not_true (sym e)
one_hole (p ∷ q ∷ ps) e = not_true (sym e)

-- ---- the readings

module _ (g : Signature) (variables : List Variable) (sound : is_sound g ≡ true) where
  -- the tokens of a term have it as a reading at its sort
  abbrev IsRead : Term → Type 0
  IsRead t = (s : SortId) → HasSort (shapes_of g) t s → let a = shown g t in Reads g variables s (map token_of a.tokens) (pattern_of t) false

  int_read : (s : SortId) (z : ℤ) → unsigned_abs z < 2 ^ 63 → g.int ≡ Some s → Reads g variables s (map token_of (integer z)) (int_pattern z) false
  int_read s (pos n) small e = subst (λ (k : ℕ). Reads g variables s (map token_of (integer (pos n))) (int_pattern (pos k)) false) (value-decimal n (omega arith)) (number s (decimal n) e)
  int_read s (negsuc n) small e =
      subst (λ (k : ℕ). Reads g variables s (map token_of (integer (negsuc n))) (int_pattern (neg_ℤ (pos k))) false) (value-decimal (suc n) (omega arith)) (minus s (decimal (suc n)) e)

  -- an argument in its hole
  record Holds (o : Operator) (side : Side) (s : SortId) (t : Term) (tokens : List Printed) : Type 0 where
    grouped : Bool
    reads : Reads g variables s (map token_of tokens) (pattern_of t) grouped
    allowed : grouped || fits o side (tie_of (head g (pattern_of t))) ≡ true

  held_by : (o : Operator) (side : Side) (s : SortId) (t : Term) (tokens : List Printed) (fit : Bool) → fits o side (tie_of (head g (pattern_of t))) ≡ fit
      → Reads g variables s (map token_of tokens) (pattern_of t) false → Holds o side s t (cond fit tokens (opening ∷ tokens ++ closing ∷ []))
  held_by o side s t tokens true e r = record { grouped = false; reads = r; allowed = e }
  held_by o side s t tokens false e r = record {
    grouped = true;
    reads = subst (λ l. Reads g variables s (token_of opening ∷ l) (pattern_of t) true) (sym (tokens-append tokens (closing ∷ []))) (group s (map token_of tokens) (pattern_of t) false r);
    allowed = refl;
  }

  held : (o : Operator) (side : Side) (s : SortId) (t : Term) → IsRead t → HasSort (shapes_of g) t s → Holds o side s t (argument o side (shown g t))
  held o side s t h k = let a = shown g t in
      held_by o side s t a.tokens (fits o side (tie_of a.first)) (ap (λ x. fits o side (tie_of x)) (sym (first-head g t))) (h s k)

  fills : (o : Operator) (position : Position) (ps : List Piece) (ss : List SortId) (ts : List Term) → holes ps ≡ length ss → AllZip (HasSort (shapes_of g)) ts ss → AllOf IsRead ts
      → Fills g variables o position ps ss (map token_of (filled o position ps (map (shown g) ts))) (map pattern_of ts)
  fills o position [] [] [] n z h = done o position
  fills o position [] [] (t ∷ ts) n z h = absurd z
  fills o position [] (s ∷ ss) ts n z h = absurd (omega (arith, n))
  fills o position (Word name ∷ ps) ss ts n z h = word o position name ps ss (token_of (spelled name.bytes)) (map token_of (filled o Later ps (map (shown g) ts))) (map pattern_of ts) refl (fills o Later ps ss ts n z h)
  fills o position (Hole ∷ ps) [] ts n z h = absurd (omega (arith, n))
  fills o position (Hole ∷ ps) (s ∷ ss) [] n z h = absurd z
  fills o position (Hole ∷ ps) (s ∷ ss) (t ∷ ts) n z h =
      let a : Holds o (side_of position ps) s t (argument o (side_of position ps) (shown g t)) = held o (side_of position ps) s t h.0 z.0 in
      let rest : List Printed = filled o Later ps (map (shown g) ts) in
      let m : holes ps ≡ length ss = omega (arith, n) in
      subst (λ l. Fills g variables o position (Hole ∷ ps) (s ∷ ss) l (pattern_of t ∷ map pattern_of ts)) (sym (tokens-append (argument o (side_of position ps) (shown g t)) rest))
      (hole o position ps s ss (map token_of (argument o (side_of position ps) (shown g t))) (map token_of rest) (pattern_of t) a.grouped (map pattern_of ts)
      (taken g variables sound s (map token_of (argument o (side_of position ps) (shown g t))) (pattern_of t) a.grouped a.reads) a.reads a.allowed (fills o Later ps ss ts m z.1 h.1))

  -- an injection is read as its argument
  injected : (op : OpId) (o : Operator) → slice_get g.operators op.0 ≡ Some o → is_injection o ≡ true → (ss : List SortId) (ts : List Term) → o.args ≡ ss → length ss ≡ 1 → AllZip (HasSort (shapes_of g)) ts ss → AllOf IsRead ts
      → Reads g variables o.sort (map token_of (inside (map (shown g) ts))) (app_pattern op (map pattern_of ts)) false
  injected op o e i [] ts a n z h = absurd (omega (arith, n))
  injected op o e i (s ∷ []) [] a n z h = absurd z
  injected op o e i (s ∷ []) (t ∷ []) a n z h = let b = shown g t in injection op o s (map token_of b.tokens) (pattern_of t) false e i a (h.0 s z.0)
  injected op o e i (s ∷ []) (t ∷ u ∷ ts) a n z h = absurd z.1
  injected op o e i (s ∷ r ∷ ss) ts a n z h = absurd (omega (arith, n))

  applied_by : (op : OpId) (o : Operator) (ts : List Term) → slice_get g.operators op.0 ≡ Some o → AllZip (HasSort (shapes_of g)) ts o.args → AllOf IsRead ts
      → Reads g variables o.sort (map token_of (applied (Some o) (map (shown g) ts))) (app_pattern op (map pattern_of ts)) false
  applied_by op o ts e z h =
      let k : SoundOperator o = sound_at g sound op.0 o e in
      let below : List Shown = map (shown g) ts in
      let P : Bool → Type 0 = λ b. Reads g variables o.sort (map token_of (cond b (inside below) (filled o First o.pieces below))) (app_pattern op (map pattern_of ts)) false in
      ⊎_elim
      (λ i. subst P (sym i) (injected op o e i o.args ts refl (sym k.as_many ∙ one_hole o.pieces i) z h))
      (λ i. subst P (sym i) (operator op o (map token_of (filled o First o.pieces below)) (map pattern_of ts) e i (fills o First o.pieces o.args ts k.as_many z h)))
      (true_or_false (is_injection o))

  app_read : (op : OpId) (ts : List Term) → NodeFits g op ts → AllOf IsRead ts → IsRead (app_term op ts)
  app_read op ts (o, e, z) h s k =
      let same : o.sort ≡ s = some_is o.sort s (sym (sort_at g op o ts e) ∙ k) in
      let r : Reads g variables s (map token_of (applied (Some o) (map (shown g) ts))) (app_pattern op (map pattern_of ts)) false
      = subst (λ (x : SortId). Reads g variables x (map token_of (applied (Some o) (map (shown g) ts))) (app_pattern op (map pattern_of ts)) false) same (applied_by op o ts e z h) in
      let whole : map token_of (applied (Some o) (map (shown g) ts)) ≡ map token_of (let a = shown g (app_term op ts) in a.tokens)
      = ap (λ x. map token_of (applied x (map (shown g) ts))) (sym e) ∙ ap (λ a. map token_of a.tokens) (sym (shown-app g op ts)) in
      subst (λ p. Reads g variables s (map token_of (let a = shown g (app_term op ts) in a.tokens)) p false) (sym (pattern-app op ts))
      (subst (λ l. Reads g variables s l (app_pattern op (map pattern_of ts)) false) whole r)

  int_at : (z : ℤ) → IsNumber (shapes_of g) z → IsRead (int_term z)
  unfolding shapes_of
  int_at z h s k =
      let there : g.int ≡ Some s = sym (sort_of-int (shapes_of g) (int_term z) z refl) ∙ k in
      subst (λ p. Reads g variables s (map token_of (let a = shown g (int_term z) in a.tokens)) p false) (sym (pattern-int z))
      (subst (λ l. Reads g variables s l (int_pattern z) false) (ap (λ a. map token_of a.tokens) (sym (shown-int g z))) (int_read s z h.0 there))

  read_all : (ts : List Term) → AllOf (λ t. FitsThroughout g t → IsRead t) ts → AllOf (FitsThroughout g) ts → AllOf IsRead ts
  read_all [] h k = tt
  read_all (t ∷ ts) h k = (h.0 k.0, read_all ts h.1 k.1)

  pub term_read : (t : Term) → FitsThroughout g t → (s : SortId) → HasSort (shapes_of g) t s → let a = shown g t in Reads g variables s (map token_of a.tokens) (pattern_of t) false
  term_read = ind_term (λ t. FitsThroughout g t → IsRead t)
      (λ z h. int_at z h)
      (λ op ts h k.
      let f : NodeFits g op ts × AllOf (FitsThroughout g) ts = throughout_app (IsNumber (shapes_of g)) (NodeFits g) op ts k in
      app_read op ts f.0 (read_all ts h f.1))
