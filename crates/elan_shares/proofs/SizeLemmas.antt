-- Which numbers of terms fit.
use Rattle.std.proofs.Common.{◌≡◌, sym, ap, ◌∙◌, ℕ, ◌+◌, ◌-◌, ◌*◌, ◌/◌, ◌≤◌, ◌<◌, arith}
use Rattle.std.proofs.Math.Nat.{mul-le-mul_left, mul-le-mul_right, mul-div_cancel_left}
use Rattle.elan_shares.specs.declared.share.Places.{Places}
use Rattle.elan_shares.specs.Sizes.{Fits}

module _ (places : Places) (count : ℕ) where
  -- where no other variable has a place only one number fits
  pub only_number : (many : ℕ) → 0 < places.sought → places.free ≡ 0 → Fits places count many → many ≡ (count - places.others) / places.sought
  only_number many some none fits =
      let sum : places.sought * many + places.others ≡ count = fits.1 none in
      let same : count - places.others ≡ places.sought * many = omega arith in
      sym (ap (λ n. n / places.sought) same ∙ mul-div_cancel_left many some)

  -- where another variable has a place a lesser number fits as well
  pub lesser_fits : (many less : ℕ) → 0 < places.free → less ≤ many → Fits places count many → Fits places count less
  lesser_fits many less free le fits =
      let product : places.sought * less ≤ places.sought * many = mul-le-mul_left places.sought le in
      (omega arith, λ none. absurd (omega arith))

  -- no number that fits is greater than the terms are many
  pub fits_within : (many : ℕ) → 0 < places.sought → Fits places count many → many ≤ count
  fits_within many some fits = let product : 1 * many ≤ places.sought * many = mul-le-mul_right many some in omega arith

pub ruleset sizes = (only_number, lesser_fits, fits_within)
