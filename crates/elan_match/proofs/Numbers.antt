-- What callers know of the numbers of variables.
use Rattle.std.proofs.Common.{◌≡◌, refl, sym, ℕ, suc, ◌==◌, ◌&&◌, eqb-true, nat_lt, Bool, true, false, List, [], ◌∷◌}
use Rattle.elan_terms.specs.declared.tree.SortId.{SortId}
use Rattle.elan_program.specs.Patterns.{are_numbered}
use Rattle.elan_terms.proofs.Sorting.{not_true}
use Rattle.elan_match.specs.Plain.{AreNumbered}

both_are : (a b : Bool) → a && b ≡ true → (a ≡ true) × (b ≡ true)
both_are true b e = (refl, e)
both_are false b e = not_true (sym e)

-- the test of a program's patterns says so
pub numbered-tested : (sorts k : ℕ) (vs : List (ℕ × SortId)) → are_numbered sorts k vs ≡ true → AreNumbered k vs
numbered-tested sorts k [] e = tt
numbered-tested sorts k (v ∷ vs) e =
    let both : ((v.0 == k && nat_lt v.1.0 sorts) ≡ true) × (are_numbered sorts (suc k) vs ≡ true)
    = both_are (v.0 == k && nat_lt v.1.0 sorts) (are_numbered sorts (suc k) vs) e in
    (eqb-true v.0 k (both_are (v.0 == k) (nat_lt v.1.0 sorts) both.0).0, numbered-tested sorts (suc k) vs both.1)
