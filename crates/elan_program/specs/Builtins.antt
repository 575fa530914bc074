-- Which built-in operations are reducible, and to what.
use Rattle.std.specs.Prelude.{◌^◌, nat_lt, zero, suc, unsigned_abs, ℤ, pos, negsuc, ◌+ℤ◌, ◌-ℤ◌, ◌*ℤ◌, int_div, int_rem, int_lt, int_le, Bool, true, false, not, ◌&&◌, ◌||◌, if◌then◌else◌, ◌==◌, Option, Some, None, List, [], ◌∷◌}
use Rattle.std.specs.Ordering.{int_eq}
use Rattle.elan_terms.specs.declared.tree.OpId.{OpId}
use Rattle.elan_terms.specs.declared.tree.Term.{Term}
use Rattle.elan_terms.specs.Trees.{case_term, int_term, app_term}
use Rattle.elan_terms.specs.Term.{same}
use Rattle.elan_program.specs.declared.signature.Builtin.{Builtin}
use Rattle.elan_program.specs.declared.signature.Builtin.TheVariants as by
use Rattle.elan_program.specs.declared.signature.Truth.{Truth}
use Rattle.elan_program.specs.declared.signature.Signature.{Signature}
use Rattle.elan_program.specs.Signature.{builtin_at}

-- ---- truth values as terms

-- the truth value of an operator without arguments: one of the two constants, or none
unfoldable pub constant : Truth → OpId → List Term → Option Bool
constant truth op [] = if op.0 == truth.yes.0 then Some true else (if op.0 == truth.no.0 then Some false else None)
constant truth op (t ∷ ts) = None

-- the truth value that a term stands for, if it is one of the two constants
unfoldable pub truth_of : Option Truth → Term → Option Bool
truth_of None t = None
truth_of (Some truth) t = case_term (λ _. None) (constant truth) t

-- whether a truth value is there and is true
abbrev pub holds : Option Bool → Bool
holds (Some b) = b
holds None = false

-- whether a term is the constant `true`
abbrev pub is_true : Option Truth → Term → Bool
is_true truth t = holds (truth_of truth t)

-- the constant of a truth value, where the signature has truth values
abbrev pub said : Option Truth → Bool → Option Term
said None b = None
said (Some truth) b = Some (app_term (if b then truth.yes else truth.no) [])

-- ---- values

-- an integer as a term, if it lies between -9,223,372,036,854,775,807 and 9,223,372,036,854,775,807
unfoldable pub in_range : ℤ → Option Term
in_range z = if nat_lt (unsigned_abs z) (2 ^ 63) then Some (int_term z) else None

-- a quotient or a remainder z by y: none by 0
unfoldable pub unless_zero : ℤ → ℤ → Option Term
unless_zero (pos zero) z = None
unless_zero (pos (suc n)) z = in_range z
unless_zero (negsuc n) z = in_range z

-- an operation of two truth values, reducible where both are there
abbrev pub of_truths : Option Truth → (Bool → Bool → Bool) → Option Bool → Option Bool → Option Term
of_truths truth f (Some x) (Some y) = said truth (f x y)
of_truths truth f _ _ = None

-- the other truth value, reducible where there is one
abbrev pub of_truth : Option Truth → Option Bool → Option Term
of_truth truth (Some x) = said truth (not x)
of_truth truth None = None

-- the integer that a term is, if it is one
unfoldable pub int_of : Term → Option ℤ
int_of = case_term (λ z. Some z) (λ _ _. None)

-- an operation of two integers, reducible where both are there
abbrev pub of_ints : (ℤ → ℤ → Option Term) → Option ℤ → Option ℤ → Option Term
of_ints f (Some x) (Some y) = f x y
of_ints f _ _ = None

-- ---- operations

-- the operations of one argument
abbrev pub unary : Option Truth → Builtin → Term → Option Term
unary truth by.Not t = of_truth truth (truth_of truth t)
unary truth _ t = None

-- the operations of two integers
unfoldable pub int_value : Option Truth → Builtin → ℤ → ℤ → Option Term
int_value truth by.Add x y = in_range (x +ℤ y)
int_value truth by.Sub x y = in_range (x -ℤ y)
int_value truth by.Mul x y = in_range (x *ℤ y)
int_value truth by.Div x y = unless_zero y (int_div x y)
int_value truth by.Mod x y = unless_zero y (int_rem x y)
int_value truth by.Less x y = said truth (int_lt x y)
int_value truth by.LessOrSame x y = said truth (int_le x y)
int_value truth by.Greater x y = said truth (int_lt y x)
int_value truth by.GreaterOrSame x y = said truth (int_le y x)
int_value truth by.IntSame x y = said truth (int_eq x y)
int_value truth by.IntDiffer x y = said truth (not (int_eq x y))
int_value truth _ x y = None

-- the operations of two arguments; those that are not of truth values or of any terms are of integers
abbrev pub binary : Option Truth → Builtin → Term → Term → Option Term
binary truth by.And t u = of_truths truth (λ x y. x && y) (truth_of truth t) (truth_of truth u)
binary truth by.Or t u = of_truths truth (λ x y. x || y) (truth_of truth t) (truth_of truth u)
binary truth by.Same t u = said truth (same t u)
binary truth by.Differ t u = said truth (not (same t u))
binary truth b t u = of_ints (int_value truth b) (int_of t) (int_of u)

-- the value of an operation, if it is reducible on these arguments
abbrev pub value_by : Option Truth → Option Builtin → List Term → Option Term
value_by truth (Some b) (t ∷ []) = unary truth b t
value_by truth (Some b) (t ∷ u ∷ []) = binary truth b t u
value_by truth _ _ = None

-- ---- terms

-- the value if there is one, and else the term
abbrev pub or_self : Term → Option Term → Term
or_self t None = t
or_self t (Some v) = v

-- the value of a term's outermost operation, if it is reducible
unfoldable pub value_in : Signature → Term → Option Term
value_in g = case_term (λ _. None) (λ op ts. value_by g.truth (builtin_at g op) ts)

-- the value of a reducible operation in the place of the term, and any other term as it is
unfoldable pub reduced : Signature → Term → Term
reduced g t = or_self t (value_in g t)
