-- The rules that are counted, one by one.
use Rattle.std.proofs.Common.{◌≡◌, ◌≤◌, ◌<◌, ℕ, zero, suc, ◌+◌, ◌-◌, ◌++◌, List, append_assoc, arith}
use Rattle.elan_demo.specs.Demo.{rule, rules}

-- the next rule is written, and one fewer is left
pub rules_next : (n left : ℕ) (text : List ℕ) → 0 < left → left ≤ n
    → (text ++ rule (n - left + 1)) ++ rules (n - (left - 1) + 1) (left - 1) ≡ text ++ rules (n - left + 1) left
rules_next n zero text some le = absurd (omega arith)
rules_next n (suc m) text some le =
    let one : suc m - 1 ≡ m = omega arith in
    let next : n - m + 1 ≡ n - suc m + 1 + 1 = omega (arith, le) in
    rw (one, next) (append_assoc text (rule (n - suc m + 1)) (rules (n - suc m + 1 + 1) m))
