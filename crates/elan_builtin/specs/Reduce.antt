-- Which built-in operations are reducible on which operands, and to what.
use Rattle.std.specs.Prelude.{◌^◌, nat_lt, zero, suc, unsigned_abs, ℤ, pos, negsuc, ◌+ℤ◌, ◌-ℤ◌, ◌*ℤ◌, int_div, int_lt, int_le, Bool, not, ◌&&◌, ◌||◌, if◌then◌else◌, Option, Some, None, List, [], ◌∷◌}
use Rattle.std.specs.Ordering.{int_eq}
use Rattle.elan_program.specs.declared.signature.Builtin.{Builtin}
use Rattle.elan_program.specs.declared.signature.Builtin.TheVariants as by
use Rattle.elan_builtin.specs.declared.operand.Operand.{Operand}
use Rattle.elan_builtin.specs.declared.operand.Operand.TheVariants.{Int, Truth}
use Rattle.elan_builtin.specs.declared.operand.Reduced.{Reduced}
use Rattle.elan_builtin.specs.declared.operand.Reduced.TheVariants as value

-- ---- integers

-- an integer, if it lies between -9,223,372,036,854,775,807 and 9,223,372,036,854,775,807
unfoldable pub ranged : ℤ → Option Reduced
ranged z = if nat_lt (unsigned_abs z) (2 ^ 63) then Some (value.Int z) else None

-- an integer z as the answer of an operation that has none where y is 0
unfoldable pub unless_zero : ℤ → ℤ → Option Reduced
unless_zero (pos zero) z = None
unless_zero (pos (suc n)) z = ranged z
unless_zero (negsuc n) z = ranged z

-- `x mod y`: what is left of x when y is taken from it as often as the quotient says; `int_div` rounds towards 0
unfoldable pub left_over : ℤ → ℤ → ℤ
left_over x y = x -ℤ int_div x y *ℤ y

-- ---- operations

-- equality and its opposite take any two terms; nothing else does
abbrev pub of_any : Builtin → Bool → Option Reduced
of_any by.Same same = Some (value.Truth same)
of_any by.Differ same = Some (value.Truth (not same))
of_any _ same = None

-- two truth values
abbrev pub of_truths : Builtin → Bool → Bool → Bool → Option Reduced
of_truths by.And same x y = Some (value.Truth (x && y))
of_truths by.Or same x y = Some (value.Truth (x || y))
of_truths op same x y = of_any op same

-- two integers
abbrev pub of_integers : Builtin → Bool → ℤ → ℤ → Option Reduced
of_integers by.Add same x y = ranged (x +ℤ y)
of_integers by.Sub same x y = ranged (x -ℤ y)
of_integers by.Mul same x y = ranged (x *ℤ y)
of_integers by.Div same x y = unless_zero y (int_div x y)
of_integers by.Mod same x y = unless_zero y (left_over x y)
of_integers by.Less same x y = Some (value.Truth (int_lt x y))
of_integers by.LessOrSame same x y = Some (value.Truth (int_le x y))
of_integers by.Greater same x y = Some (value.Truth (int_lt y x))
of_integers by.GreaterOrSame same x y = Some (value.Truth (int_le y x))
of_integers by.IntSame same x y = Some (value.Truth (int_eq x y))
of_integers by.IntDiffer same x y = Some (value.Truth (not (int_eq x y)))
of_integers op same x y = of_any op same

-- two operands
abbrev pub of_two : Builtin → Bool → Operand → Operand → Option Reduced
of_two op same (Int x) (Int y) = of_integers op same x y
of_two op same (Truth x) (Truth y) = of_truths op same x y
of_two op same _ _ = of_any op same

-- one operand
abbrev pub of_one : Builtin → Operand → Option Reduced
of_one by.Not (Truth x) = Some (value.Truth (not x))
of_one _ _ = None

-- the value of an operation on these operands, if it is reducible; `same` tells whether the two arguments are the same term
abbrev pub value_of : Builtin → List Operand → Bool → Option Reduced
value_of op (x ∷ []) same = of_one op x
value_of op (x ∷ y ∷ []) same = of_two op same x y
value_of op _ same = None
