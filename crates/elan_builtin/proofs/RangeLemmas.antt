-- Ranges, quotients and remainders.
use Rattle.std.proofs.Common.{◌≡◌, refl, sym, ◌∙◌, ap, ℕ, zero, suc, subst, ℤ, pos, negsuc, ◌*ℤ◌, ◌-ℤ◌, true, false, Option, arith}
use Rattle.std.specs.Prelude.{◌^◌, ◌<◌, ◌≤◌, nat_lt, None, Some, ◌≢◌, int_rem, int_div, FitsSigned}
use Rattle.std.specs.Int.{w64, IsNonZero, cast_signed, cast_unsigned}
use Rattle.std.proofs.lemmas.Bool.{lt-ltb, le-ltb}
use Rattle.std.proofs.lemmas.Int.{quot-rem, to_z-of_z}
use Rattle.std.proofs.Math.IntN.{+ℤ-neg_ℤ_cancel, +ℤ_comm}
use Rattle.elan_builtin.specs.declared.operand.Reduced.{Reduced}
use Rattle.elan_builtin.specs.declared.operand.Reduced.TheVariants as value
use Rattle.elan_builtin.specs.Reduce.{ranged, unless_zero, left_over}

within : (n : ℕ) → n < 2 ^ 63 → nat_lt n (2 ^ 63) ≡ true
within n lt = lt-ltb n (2 ^ 63) lt

past : (n : ℕ) → 2 ^ 63 ≤ n → nat_lt n (2 ^ 63) ≡ false
past n le = le-ltb n (2 ^ 63) le

pub ranged-out : (z : ℤ) → ¬ (FitsSigned w64 z) → None ≡ ranged z
unfolding ranged
ranged-out (pos n) out =
    let high : ¬ (n < 2 ^ 63) = λ lt. out (record { sfits = lt }) in
    let le : 2 ^ 63 ≤ n = omega arith in
    rw (past n le) refl
ranged-out (negsuc n) out =
    let high : ¬ (n < 2 ^ 63) = λ lt. out (record { sfits = lt }) in
    let le : 2 ^ 63 ≤ suc n = omega arith in
    rw (past (suc n) le) refl

pub ranged-in : (z : ℤ) → FitsSigned w64 z → z ≢ negsuc 9223372036854775807 → Some (value.Int z) ≡ ranged z
unfolding ranged
ranged-in (pos n) fits other = rw (within n fits.sfits) refl
ranged-in (negsuc n) fits other =
    let low : n < 2 ^ 63 = fits.sfits in
    let not_last : n ≢ 9223372036854775807 = λ e. other (ap (λ k. negsuc k) e) in
    let lt : suc n < 2 ^ 63 = omega arith in
    rw (within (suc n) lt) refl

pub ranged-least : (z : ℤ) → z ≡ negsuc 9223372036854775807 → None ≡ ranged z
unfolding ranged
ranged-least z e = sym (ap (λ i. ranged i) e)

pub ruleset ranges = (ranged-out, ranged-in, ranged-least)

-- ---- quotients and remainders

pub unless_zero-by : (y z : ℤ) → y ≢ pos 0 → ranged z ≡ unless_zero y z
unfolding unless_zero
unless_zero-by (pos zero) z other = absurd (other refl)
unless_zero-by (pos (suc n)) z other = refl
unless_zero-by (negsuc n) z other = refl

pub unless_zero-zero : (y z : ℤ) → y ≡ pos 0 → None ≡ unless_zero y z
unfolding unless_zero
unless_zero-zero y z e = sym (ap (λ i. unless_zero i z) e)

-- the remainder is what the division leaves
pub left_over-is : (x y : ℤ) → int_rem x y ≡ left_over x y
unfolding left_over
left_over-is x y =
    sym (+ℤ-neg_ℤ_cancel (int_rem x y) (int_div x y *ℤ y)) ∙ ap (λ s. s -ℤ int_div x y *ℤ y) (+ℤ_comm (int_rem x y) (int_div x y *ℤ y) ∙ quot-rem x y)

pub ruleset quotients = (unless_zero-by, unless_zero-zero, left_over-is)

-- the number of a number's bits
abbrev bits_of : ℤ → ℤ
bits_of z = cast_signed w64 (cast_unsigned w64 z)

not_zero : (y : ℤ) → IsNonZero w64 y → y ≢ pos 0
not_zero (pos zero) some e = absurd (omega (arith, some))
not_zero (pos (suc n)) some e = no_path e
  where
    no_path : pos (suc n) ≡ pos 0 → ⊥
    no_path f = cc
not_zero (negsuc n) some e = no_path e
  where
    no_path : negsuc n ≡ pos 0 → ⊥
    no_path f = cc

-- the quotient of the bits is that of the numbers
pub quotient-is : (x y z : ℤ) (r : Option Reduced) → FitsSigned w64 x → FitsSigned w64 y → r ≡ ranged (bits_of z)
    → IsNonZero w64 (bits_of y) × FitsSigned w64 (int_div (bits_of x) (bits_of y)) → z ≡ int_div (bits_of x) (bits_of y) → r ≡ unless_zero y (int_div x y)
quotient-is x y z r fx fy is can e =
    let ey : bits_of y ≡ y = to_z-of_z w64 y fy in
    let fits : FitsSigned w64 z = subst (λ (i : ℤ). FitsSigned w64 i) (sym e) can.1 in
    is ∙ ap ranged (to_z-of_z w64 z fits) ∙ ap ranged e ∙ ap (λ i. ranged (int_div i (bits_of y))) (to_z-of_z w64 x fx) ∙ ap (λ i. ranged (int_div x i)) ey
    ∙ unless_zero-by y (int_div x y) (not_zero y (subst (λ (i : ℤ). IsNonZero w64 i) ey can.0))

-- the same of the remainder
pub remainder-is : (x y z : ℤ) (r : Option Reduced) → FitsSigned w64 x → FitsSigned w64 y → FitsSigned w64 z → r ≡ ranged (bits_of z)
    → (cast_unsigned w64 y ≡ 0 → ⊥) → z ≡ int_rem (bits_of x) (bits_of y) → r ≡ unless_zero y (left_over x y)
remainder-is x y z r fx fy fz is other e =
    is ∙ ap ranged (to_z-of_z w64 z fz) ∙ ap ranged e ∙ ap (λ i. ranged (int_rem i (bits_of y))) (to_z-of_z w64 x fx) ∙ ap (λ i. ranged (int_rem x i)) (to_z-of_z w64 y fy)
    ∙ ap ranged (left_over-is x y) ∙ unless_zero-by y (left_over x y) (λ f. other (ap (cast_unsigned w64) f))
