-- What is read at a sort is a pattern of that sort.
use Rattle.std.proofs.Common.{◌≡◌, refl, sym, ap, ◌∙◌, subst, ℕ, ℤ, pos, zero, suc, ◌<◌, ◌^◌, Bool, true, false, cond, ◌&&◌, eq-eqb, lt-ltb, All, Option, Some, None, List, [], ◌∷◌, ◌++◌, length, slice_get, map}
use Rattle.std.specs.Prelude.{option_map, neg_ℤ, unsigned_abs, nat_le}
use Rattle.elan_lexer.specs.Bytes.{value}
use Rattle.elan_terms.specs.declared.tree.OpId.{OpId}
use Rattle.elan_terms.specs.declared.tree.SortId.{SortId}
use Rattle.elan_terms.specs.declared.tree.Pattern.{Pattern}
use Rattle.elan_terms.specs.Match.{is_sort}
use Rattle.elan_terms.proofs.Lists.{AllOf, all_of}
use Rattle.elan_program.specs.declared.signature.Piece.{Piece}
use Rattle.elan_program.specs.declared.signature.Operator.{Operator}
use Rattle.elan_program.specs.declared.signature.Signature.{Signature}
use Rattle.elan_program.specs.Signature.{shape_of, shapes_of}
use Rattle.elan_program.specs.Soundness.{is_sound}
use Rattle.elan_program.specs.Patterns.{pattern_sort, is_in_range, sort_of_int, are_of_sorts, are_all_of, args_fit, sort_over}
use Rattle.elan_program.specs.Extension.{var_pattern, int_pattern, app_pattern}
use Rattle.elan_program.proofs.PatternLemmas.{pattern_sort-var, pattern_sort-int, pattern_sort-app}
use Rattle.elan_reading.specs.declared.lexeme.Lexeme.{Lexeme}
use Rattle.elan_reading.specs.declared.lexeme.Variable.{Variable}
use Rattle.elan_reading.specs.declared.edge.Position.{Position}
use Rattle.elan_reading.specs.declared.edge.Position.TheVariants.{First, Later}
use Rattle.elan_reading.specs.Lexemes.{IsInRange, sign_token}
use Rattle.elan_reading.specs.Readings.{Reads, Fills, variable, number, minus, operator, injection, group, done, word, hole}
use Rattle.elan_terms.proofs.Sorting.{not_true}
use Rattle.elan_reading.proofs.Sound.{SoundOperator, sound_at, shape_at, ac_sorts, both}

abs_neg : (n : ℕ) → unsigned_abs (neg_ℤ (pos n)) ≡ n
abs_neg zero = refl
abs_neg (suc n) = refl

left_all : (xs ys : List Lexeme) → AllOf IsInRange (xs ++ ys) → AllOf IsInRange xs
left_all [] ys h = tt
left_all (x ∷ xs) ys h = (h.0, left_all xs ys h.1)

right_all : (xs ys : List Lexeme) → AllOf IsInRange (xs ++ ys) → AllOf IsInRange ys
right_all [] ys h = h
right_all (x ∷ xs) ys h = right_all xs ys h.1

own_sort : (s : SortId) → is_sort (Some s) s ≡ true
own_sort s = eq-eqb s.0 s.0 refl

two_of_one : (s : SortId) (found : List (Option SortId)) → are_of_sorts (s ∷ s ∷ []) found ≡ true → nat_le 2 (length found) && are_all_of s found ≡ true
two_of_one s [] e = not_true (sym e)
two_of_one s (a ∷ []) e = not_true (sym (both (is_sort a s) false e).1)
two_of_one s (a ∷ b ∷ []) e = e
two_of_one s (a ∷ b ∷ c ∷ found) e = not_true (sym (both (is_sort b s) false (both (is_sort a s) (is_sort b s && false) e).1).1)

-- arguments of the sorts of an operator fit its shape
shape_fits : (o : Operator) (found : List (Option SortId)) → SoundOperator o → are_of_sorts o.args found ≡ true → args_fit (shape_of o) found ≡ true
unfolding args_fit
shape_fits o found h e = go o.ac refl
  where
    go : (b : Bool) → o.ac ≡ b → cond b (nat_le 2 (length found) && are_all_of o.sort found) (are_of_sorts o.args found) ≡ true
    go false ac = e
    go true ac = two_of_one o.sort found (ap (λ ss. are_of_sorts ss found) (sym (ac_sorts o h ac)) ∙ e)

module _ (g : Signature) where
  abbrev sort_in : Pattern → Option SortId
  sort_in t = pattern_sort (shapes_of g) t

  integer_sort : (s : SortId) (z : ℤ) → unsigned_abs z < 2 ^ 63 → g.int ≡ Some s → sort_in (int_pattern z) ≡ Some s
  unfolding shapes_of sort_of_int is_in_range
  integer_sort s z small int = pattern_sort-int (shapes_of g) (int_pattern z) z refl ∙ ap (λ b. cond b g.int None) (lt-ltb (unsigned_abs z) (2 ^ 63) small) ∙ int

  node_sort : is_sound g ≡ true → (op : OpId) (o : Operator) (ts : List Pattern) → slice_get g.operators op.0 ≡ Some o
      → are_of_sorts o.args (map (pattern_sort (shapes_of g)) ts) ≡ true → sort_in (app_pattern op ts) ≡ Some o.sort
  unfolding shapes_of
  node_sort sound op o ts e fit =
      pattern_sort-app (shapes_of g) (app_pattern op ts) op ts refl
      ∙ ap (λ x. sort_over x (map (pattern_sort (shapes_of g)) ts)) (shape_at g op.0 ∙ ap (option_map shape_of) e)
      ∙ ap (λ b. cond b (Some o.sort) None) (shape_fits o (map (pattern_sort (shapes_of g)) ts) (sound_at g sound op.0 o e) fit)

  first_fits : (s : SortId) (ss : List SortId) (t : Pattern) (ts : List Pattern) → sort_in t ≡ Some s → are_of_sorts ss (map (pattern_sort (shapes_of g)) ts) ≡ true
      → are_of_sorts (s ∷ ss) (map (pattern_sort (shapes_of g)) (t ∷ ts)) ≡ true
  first_fits s ss t ts e h = ap (λ x. is_sort x s && are_of_sorts ss (map (pattern_sort (shapes_of g)) ts)) e ∙ ap (λ b. b && are_of_sorts ss (map (pattern_sort (shapes_of g)) ts)) (own_sort s) ∙ h

  module _ (variables : List Variable) (sound : is_sound g ≡ true) where
    mutual
      reads_at : (s : SortId) (run : List Lexeme) (t : Pattern) (grouped : Bool) → AllOf IsInRange run → Reads g variables s run t grouped → sort_in t ≡ Some s
      reads_at _ _ _ _ h (variable v among) = pattern_sort-var (shapes_of g) (var_pattern v.number v.sort) v.number v.sort refl
      reads_at _ _ _ _ h (number s digits int) = integer_sort s (pos (value digits)) (h.0 refl) int
      reads_at _ _ _ _ h (minus s digits int) = integer_sort s (neg_ℤ (pos (value digits))) (subst (λ n. n < 2 ^ 63) (sym (abs_neg (value digits))) (h.1.0 refl)) int
      reads_at _ _ _ _ h (operator op o run ts e i f) = node_sort sound op o ts e (fills_at o First o.pieces o.args run ts h f)
      reads_at _ _ _ _ h (injection op o s run t grouped e i a r) =
          node_sort sound op o (t ∷ []) e (ap (λ ss. are_of_sorts ss (map (pattern_sort (shapes_of g)) (t ∷ []))) a ∙ first_fits s [] t [] (reads_at s run t grouped h r) refl)
      reads_at _ _ _ _ h (group s run t grouped r) = reads_at s run t grouped (left_all run (sign_token 41 ∷ []) h.1) r

      fills_at : (o : Operator) (position : Position) (ps : List Piece) (ss : List SortId) (run : List Lexeme) (ts : List Pattern) → AllOf IsInRange run
          → Fills g variables o position ps ss run ts → are_of_sorts ss (map (pattern_sort (shapes_of g)) ts) ≡ true
      fills_at _ _ _ _ _ _ h (done o position) = refl
      fills_at _ _ _ _ _ _ h (word o position name ps ss token run ts e f) = fills_at o Later ps ss run ts h.1 f
      fills_at _ _ _ _ _ _ h (hole o position ps s ss part run t grouped ts some r a f) =
          first_fits s ss t ts (reads_at s part t grouped (left_all part run h) r) (fills_at o Later ps ss run ts (right_all part run h) f)

    pub sorted : (s : SortId) (run : List Lexeme) (t : Pattern) (grouped : Bool) → All IsInRange run → Reads g variables s run t grouped → sort_in t ≡ Some s
    sorted s run t grouped h r = reads_at s run t grouped (all_of IsInRange run h) r
