-- How many names are left to be counted.
use Rattle.std.proofs.Common.{◌≡◌, ap, sym, ◌∙◌, ℕ, ◌+◌, ◌-◌, ◌<◌, ◌≤◌, Bool, false, List, ◌∷◌, length, length-append, arith}
use Rattle.std.proofs.lemmas.Grind.{common_steps}
use Rattle.std.specs.Prelude.{nat_lt}
use Rattle.elan_syntax.specs.declared.parts.Vars.{Vars}
use Rattle.elan_check.specs.Laid.{tokens_of}

less_room : (n m count room : ℕ) → n ≡ count + m → count < room → nat_lt n room ≡ nat_lt m (room - count)
less_room n m count room e f = grind (arith, common_steps)

no_room : (n m count room : ℕ) → n ≡ count + m → room ≤ count → nat_lt n room ≡ false
no_room n m count room e f = grind (arith, common_steps)

module _ (v : Vars) (vs : List Vars) (room count : ℕ) (whole : Bool) (counted : count ≡ length v.names) (so_far : nat_lt (length (tokens_of (v ∷ vs))) room ≡ whole) where
  counts : length (tokens_of (v ∷ vs)) ≡ count + length (tokens_of vs)
  counts = length-append v.names (tokens_of vs) ∙ ap (λ n. n + length (tokens_of vs)) (sym counted)

  -- names that leave room
  pub room_left : count < room → nat_lt (length (tokens_of vs)) (room - count) ≡ whole
  room_left few = sym (less_room (length (tokens_of (v ∷ vs))) (length (tokens_of vs)) count room counts few) ∙ so_far

  -- names that fill the room
  pub room_full : room ≤ count → false ≡ whole
  room_full full = sym (no_room (length (tokens_of (v ∷ vs))) (length (tokens_of vs)) count room counts full) ∙ so_far
