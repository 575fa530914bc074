-- The value of operands stands for the value of the terms that they stand for.
use Rattle.std.proofs.Common.{◌≡◌, refl, sym, ◌∙◌, ap, ap₂, zero, suc, ℤ, pos, negsuc, Bool, true, false, not, ◌&&◌, ◌||◌, cond, nat_lt, Option, Some, None, List, [], ◌∷◌}
use Rattle.std.specs.Prelude.{◌^◌, unsigned_abs, int_div}
use Rattle.std.proofs.lemmas.Bool.Decides.{same_from_decides}
use Rattle.elan_terms.specs.declared.tree.Term.{Term}
use Rattle.elan_terms.specs.declared.tree.TermNode as term
use Rattle.elan_terms.specs.Trees.{int_term}
use Rattle.elan_terms.specs.Term.{same}
use Rattle.elan_terms.proofs.OrderLemmas.{same-equal, equal-same}
use Rattle.elan_program.specs.declared.signature.Builtin.{Builtin}
use Rattle.elan_program.specs.declared.signature.Builtin.TheVariants as by
use Rattle.elan_program.specs.declared.signature.Truth as signature
use Rattle.elan_program.specs.Builtins as terms
use Rattle.elan_builtin.specs.declared.operand.Operand.{Operand}
use Rattle.elan_builtin.specs.declared.operand.Operand.TheVariants.{Int, Truth, Other}
use Rattle.elan_builtin.specs.declared.operand.Reduced.TheVariants as value
use Rattle.elan_builtin.specs.Reduce.{ranged, unless_zero, left_over, of_any, of_truths, of_integers, of_two, of_one, value_of}
use Rattle.elan_builtin.specs.Stands.{Stands, StandFor, TellsSame, term_of}
use Rattle.elan_builtin.proofs.RangeLemmas.{left_over-is}

not_there : {A X : Type 0} {x : X} → None ≡ Some x → A
not_there {x = x} e = absurd (no_path e)
  where
    no_path : None ≡ Some x → ⊥
    no_path f = cc

-- ---- what an operand says of its term

-- the integer and the truth value that an operand is
abbrev int_in : Operand → Option ℤ
int_in (Int z) = Some z
int_in (Truth b) = None
int_in Other = None

abbrev truth_in : Operand → Option Bool
truth_in (Int z) = None
truth_in (Truth b) = Some b
truth_in Other = None

record Says (truth : Option signature.Truth) (o : Operand) (t : Term) : Type 0 where
  int : terms.int_of t ≡ int_in o
  fact : terms.truth_of truth t ≡ truth_in o

integer-int : (z : ℤ) → terms.int_of (int_term z) ≡ Some z
unfolding terms.int_of
integer-int z = refl

integer-truth : (truth : Option signature.Truth) (z : ℤ) → terms.truth_of truth (int_term z) ≡ None
unfolding terms.truth_of
integer-truth None z = refl
integer-truth (Some truth) z = refl

truth-no_int : (truth : Option signature.Truth) (b : Bool) (n : term.TermNode) → terms.truth_of truth (record { node = n }) ≡ Some b → terms.int_of (record { node = n }) ≡ None
unfolding terms.int_of
truth-no_int truth b (term.Int z) e = not_there (sym (integer-truth truth z) ∙ e)
truth-no_int truth b (term.App' op shape row) e = refl

says : (truth : Option signature.Truth) (o : Operand) (t : Term) → Stands truth o t → Says truth o t
says truth (Int z) t h = record { int = ap terms.int_of h ∙ integer-int z; fact = ap (terms.truth_of truth) h ∙ integer-truth truth z }
says truth (Truth b) t h = record { int = truth-no_int truth b t.node h; fact = h }
says truth Other t h = record { int = h.0; fact = h.1 }

-- ---- integers

ranged-term_by : (truth : Option signature.Truth) (z : ℤ) (b : Bool) → cond b (Some (int_term z)) None ≡ term_of truth (cond b (Some (value.Int z)) None)
ranged-term_by truth z true = refl
ranged-term_by truth z false = refl

ranged-term : (truth : Option signature.Truth) (z : ℤ) → terms.in_range z ≡ term_of truth (ranged z)
unfolding terms.in_range ranged
ranged-term truth z = ranged-term_by truth z (nat_lt (unsigned_abs z) (2 ^ 63))

zero-term : (truth : Option signature.Truth) (y z : ℤ) → terms.unless_zero y z ≡ term_of truth (unless_zero y z)
unfolding terms.unless_zero unless_zero
zero-term truth (pos zero) z = refl
zero-term truth (pos (suc n)) z = ranged-term truth z
zero-term truth (negsuc n) z = ranged-term truth z

-- ---- two operands

module _ (truth : Option signature.Truth) (s : Bool) where
  -- an operation of integers alone
  record OfIntegers (b : Builtin) : Type 0 where
    gives : (x y : ℤ) → terms.int_value truth b x y ≡ term_of truth (of_integers b s x y)
    no_truths : (x y : Bool) → of_truths b s x y ≡ None
    no_others : of_any b s ≡ None

  ints-term : (b : Builtin) → OfIntegers b → (o p : Operand) → terms.of_ints (terms.int_value truth b) (int_in o) (int_in p) ≡ term_of truth (of_two b s o p)
  ints-term b h (Int x) (Int y) = h.gives x y
  ints-term b h (Int x) (Truth y) = ap (term_of truth) (sym h.no_others)
  ints-term b h (Int x) Other = ap (term_of truth) (sym h.no_others)
  ints-term b h (Truth x) (Int y) = ap (term_of truth) (sym h.no_others)
  ints-term b h (Truth x) (Truth y) = ap (term_of truth) (sym (h.no_truths x y))
  ints-term b h (Truth x) Other = ap (term_of truth) (sym h.no_others)
  ints-term b h Other (Int y) = ap (term_of truth) (sym h.no_others)
  ints-term b h Other (Truth y) = ap (term_of truth) (sym h.no_others)
  ints-term b h Other Other = ap (term_of truth) (sym h.no_others)

  and-term : (o p : Operand) → terms.of_truths truth (λ x y. x && y) (truth_in o) (truth_in p) ≡ term_of truth (of_two by.And s o p)
  and-term (Int x) (Int y) = refl
  and-term (Int x) (Truth y) = refl
  and-term (Int x) Other = refl
  and-term (Truth x) (Int y) = refl
  and-term (Truth x) (Truth y) = refl
  and-term (Truth x) Other = refl
  and-term Other (Int y) = refl
  and-term Other (Truth y) = refl
  and-term Other Other = refl

  or-term : (o p : Operand) → terms.of_truths truth (λ x y. x || y) (truth_in o) (truth_in p) ≡ term_of truth (of_two by.Or s o p)
  or-term (Int x) (Int y) = refl
  or-term (Int x) (Truth y) = refl
  or-term (Int x) Other = refl
  or-term (Truth x) (Int y) = refl
  or-term (Truth x) (Truth y) = refl
  or-term (Truth x) Other = refl
  or-term Other (Int y) = refl
  or-term Other (Truth y) = refl
  or-term Other Other = refl

  same-term : (o p : Operand) → terms.said truth s ≡ term_of truth (of_two by.Same s o p)
  same-term (Int x) (Int y) = refl
  same-term (Int x) (Truth y) = refl
  same-term (Int x) Other = refl
  same-term (Truth x) (Int y) = refl
  same-term (Truth x) (Truth y) = refl
  same-term (Truth x) Other = refl
  same-term Other (Int y) = refl
  same-term Other (Truth y) = refl
  same-term Other Other = refl

  differ-term : (o p : Operand) → terms.said truth (not s) ≡ term_of truth (of_two by.Differ s o p)
  differ-term (Int x) (Int y) = refl
  differ-term (Int x) (Truth y) = refl
  differ-term (Int x) Other = refl
  differ-term (Truth x) (Int y) = refl
  differ-term (Truth x) (Truth y) = refl
  differ-term (Truth x) Other = refl
  differ-term Other (Int y) = refl
  differ-term Other (Truth y) = refl
  differ-term Other Other = refl

  module _ (o p : Operand) (t u : Term) (h : Says truth o t) (k : Says truth p u) (e : same t u ≡ s) where
    by_ints : (b : Builtin) → OfIntegers b → terms.of_ints (terms.int_value truth b) (terms.int_of t) (terms.int_of u) ≡ term_of truth (of_two b s o p)
    by_ints b g = ap₂ (terms.of_ints (terms.int_value truth b)) h.int k.int ∙ ints-term b g o p

    binary-term : (b : Builtin) → terms.binary truth b t u ≡ term_of truth (of_two b s o p)
    unfolding terms.int_value
    binary-term by.And = ap₂ (terms.of_truths truth (λ x y. x && y)) h.fact k.fact ∙ and-term o p
    binary-term by.Or = ap₂ (terms.of_truths truth (λ x y. x || y)) h.fact k.fact ∙ or-term o p
    binary-term by.Same = ap (terms.said truth) e ∙ same-term o p
    binary-term by.Differ = ap (λ r. terms.said truth (not r)) e ∙ differ-term o p
    binary-term by.Add = by_ints by.Add (record { gives = λ x y. ranged-term truth _; no_truths = λ x y. refl; no_others = refl })
    binary-term by.Sub = by_ints by.Sub (record { gives = λ x y. ranged-term truth _; no_truths = λ x y. refl; no_others = refl })
    binary-term by.Mul = by_ints by.Mul (record { gives = λ x y. ranged-term truth _; no_truths = λ x y. refl; no_others = refl })
    binary-term by.Div = by_ints by.Div (record { gives = λ x y. zero-term truth y (int_div x y); no_truths = λ x y. refl; no_others = refl })
    binary-term by.Mod = by_ints by.Mod (record { gives = λ x y. ap (terms.unless_zero y) (left_over-is x y) ∙ zero-term truth y (left_over x y); no_truths = λ x y. refl; no_others = refl })
    binary-term by.Less = by_ints by.Less (record { gives = λ x y. refl; no_truths = λ x y. refl; no_others = refl })
    binary-term by.LessOrSame = by_ints by.LessOrSame (record { gives = λ x y. refl; no_truths = λ x y. refl; no_others = refl })
    binary-term by.Greater = by_ints by.Greater (record { gives = λ x y. refl; no_truths = λ x y. refl; no_others = refl })
    binary-term by.GreaterOrSame = by_ints by.GreaterOrSame (record { gives = λ x y. refl; no_truths = λ x y. refl; no_others = refl })
    binary-term by.IntSame = by_ints by.IntSame (record { gives = λ x y. refl; no_truths = λ x y. refl; no_others = refl })
    binary-term by.IntDiffer = by_ints by.IntDiffer (record { gives = λ x y. refl; no_truths = λ x y. refl; no_others = refl })
    binary-term by.Yes = by_ints by.Yes (record { gives = λ x y. refl; no_truths = λ x y. refl; no_others = refl })
    binary-term by.No = by_ints by.No (record { gives = λ x y. refl; no_truths = λ x y. refl; no_others = refl })
    binary-term by.Not = by_ints by.Not (record { gives = λ x y. refl; no_truths = λ x y. refl; no_others = refl })

-- ---- one operand

not-term : (truth : Option signature.Truth) (o : Operand) → terms.of_truth truth (truth_in o) ≡ term_of truth (of_one by.Not o)
not-term truth (Int z) = refl
not-term truth (Truth b) = refl
not-term truth Other = refl

unary-term : (truth : Option signature.Truth) (b : Builtin) (o : Operand) (t : Term) → Says truth o t → terms.unary truth b t ≡ term_of truth (of_one b o)
unary-term truth by.Not o t h = ap (terms.of_truth truth) h.fact ∙ not-term truth o
unary-term truth _ o t h = refl

-- ---- all

told-same : (t u : Term) (s : Bool) → (s ≡ true → t ≡ u) × (t ≡ u → s ≡ true) → same t u ≡ s
told-same t u s h = same_from_decides (same t u) s (same-equal t u, equal-same t u) h

pub value-term : (truth : Option signature.Truth) (b : Builtin) (os : List Operand) (ts : List Term) (s : Bool) → StandFor truth os ts → TellsSame s ts → terms.value_by truth (Some b) ts ≡ term_of truth (value_of b os s)
value-term truth b [] [] s h e = refl
value-term truth b [] (t ∷ ts) s h e = absurd h
value-term truth b (o ∷ os) [] s h e = absurd h
value-term truth b (o ∷ []) (t ∷ []) s h e = unary-term truth b o t (says truth o t h.0)
value-term truth b (o ∷ []) (t ∷ u ∷ ts) s h e = absurd h.1
value-term truth b (o ∷ p ∷ os) (t ∷ []) s h e = absurd h.1
value-term truth b (o ∷ p ∷ []) (t ∷ u ∷ []) s h e = binary-term truth s o p t u (says truth o t h.0) (says truth p u h.1.0) (told-same t u s e) b
value-term truth b (o ∷ p ∷ []) (t ∷ u ∷ v ∷ ts) s h e = absurd h.1.1
value-term truth b (o ∷ p ∷ q ∷ os) (t ∷ u ∷ []) s h e = absurd h.1.1
value-term truth b (o ∷ p ∷ q ∷ os) (t ∷ u ∷ v ∷ ts) s h e = refl
