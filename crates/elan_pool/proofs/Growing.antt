-- One more of which a fact holds, as of those before it.
use Rattle.std.proofs.Common.{zero, suc, List, [], ◌∷◌, ◌++◌, All}
use Rattle.std.proofs.lemmas.List.Elements.{All-append}
use native.Mathlib.Omega.{arith}

module _ {A : Type 0} (P : A → Type 0) where
  single : (x : A) → P x → All P (x ∷ [])
  single x is zero d lt = is
  single x is (suc k) d lt = absurd (omega (arith, lt))

  pub one_more : (xs : List A) (x : A) → All P xs → P x → All P (xs ++ x ∷ [])
  one_more xs x h is = All-append P xs (x ∷ []) h (single x is)
