-- Counts of bytes, part by part.
use Rattle.std.proofs.Common.{◌≡◌, ℕ, suc, ◌+◌, ◌-◌, ◌*◌, ◌≤◌, true, false, List, [], ◌∷◌, Option, Some, None, refl, ap, arith}
use Rattle.std.specs.Prelude.{◌==◌, ◌&&◌}
use Rattle.elan_lexer.specs.Bytes.{value_from, begins}
use Rattle.elan_lexer.specs.Cut.{close}

-- so many bytes more
abbrev pub plus : ℕ → Option ℕ → Option ℕ
plus n None = None
plus n (Some m) = Some (n + m)

pub value_ge : (n : ℕ) (bs : List ℕ) → n ≤ value_from n bs
value_ge n [] = omega arith
value_ge n (b ∷ bs) = omega (arith, value_ge (10 * n + (b - 48)) bs)

pub close_end : (n b : ℕ) (bs : List ℕ) → b == 42 && begins 47 bs ≡ true → plus n (close (b ∷ bs)) ≡ Some (n + 2)
unfolding close
close_end n b bs e = rw e refl

pub close_step : (n b : ℕ) (bs : List ℕ) → b == 42 && begins 47 bs ≡ false →
    plus n (close (b ∷ bs)) ≡ plus (n + 1) (close bs)
unfolding close
close_step n b bs e = rw e (go (close bs))
  where
    go : (o : Option ℕ) → plus n (elim o [ None ↦ None | Some m ↦ Some (suc m) ]) ≡ plus (n + 1) o
    go None = refl
    go (Some m) = ap (λ z. Some z) (omega arith)
