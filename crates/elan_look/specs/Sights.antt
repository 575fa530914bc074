-- What is known where a pattern is looked at.
use Rattle.std.specs.Prelude.{ℕ, ◌-◌, ◌==◌, Bool, true, false, not, ◌&&◌, Option, Some, None, slice_get, is_some, option_and_then, nat_lt, if◌then◌else◌}
use Rattle.std.specs.List.{list_all, list_any}
use Rattle.boxcar.specs.Table.{Where}
use Rattle.elan_terms.specs.declared.tree.SortId.{SortId}
use Rattle.elan_terms.specs.declared.tree.Term.{Term}
use Rattle.elan_terms.specs.declared.tree.Pattern.{Pattern}
use Rattle.elan_terms.specs.Trees.{fold_pattern}
use Rattle.elan_look.specs.declared.sight.Sight.{Sight}

-- whether the variable that is sought has this number
abbrev pub is_sought_number : Option (ℕ × SortId) → ℕ → Bool
is_sought_number None x = false
is_sought_number (Some v) x = v.0 == x

module _ {N : Type 0} where
  -- the row of the value of the variable of this number, where it is known
  abbrev pub value_at : Sight N → ℕ → Option (Where Term)
  value_at s x = if nat_lt x s.first then None else option_and_then (λ known. known) (slice_get s.known (x - s.first))

  -- whether the variable of this number is the one that is sought
  abbrev pub is_sought : Sight N → ℕ → Bool
  is_sought s x = is_sought_number s.sought x

  -- whether each variable of the pattern has a known value
  unfoldable pub is_given : Sight N → Pattern → Bool
  is_given s = fold_pattern (λ x _. is_some (value_at s x)) (λ _. true) (λ _ each. list_all (λ given. given) each)

  -- whether the variable of this number is the one that is sought, and its value is not known
  abbrev pub seeks_at : Sight N → ℕ → Bool
  seeks_at s x = is_sought s x && not (is_some (value_at s x))

  -- whether that variable stands in the pattern
  unfoldable pub seeks : Sight N → Pattern → Bool
  seeks s = fold_pattern (λ x _. seeks_at s x) (λ _. false) (λ _ each. list_any (λ there. there) each)
