-- A chain of injections, one longer than another.
use Rattle.std.proofs.Common.{◌≡◌, refl, ap, ℕ, zero, suc, ◌-◌, List, arith}
use Rattle.elan_program.specs.Soundness.{chains, led_on}

pub chains-longer : (all : List (ℕ × ℕ)) (n : ℕ) → (n ≡ 0 → ⊥) → chains all n ≡ led_on (chains all (n - 1)) all
chains-longer all zero h = absurd (h refl)
chains-longer all (suc n) h = ap (λ m. led_on (chains all m) all) (omega arith)

pub ruleset chain_rules = (chains-longer)
