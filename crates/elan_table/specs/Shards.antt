-- What a shard holds: a finite map from nodes to numbers.
use Rattle.std.specs.Prelude.{ℕ, ℤ, List, map, Option, nat_eq}
use Rattle.std.specs.Ordering.{int_eq}
use Rattle.std.specs.Option.{option_map}
use Rattle.std.specs.Cmp.Lexicographic.{pointwise}
use Rattle.indexmap.specs.IndexMap.{get_by}
use Rattle.boxcar.specs.Table.{Where}
use Rattle.elan_terms.specs.declared.tree.Term.{Term}
use Rattle.elan_table.specs.Shown.{key_of}
use Rattle.elan_table.specs.declared.name.Name.{Ghosts}
use Rattle.elan_table.specs.declared.shard.Shard.{Shard}

module _ {N : Type 0} {g : Ghosts N} where
  -- the row that is kept for an application, by its operator and the numbers of the rows of its arguments
  abbrev pub kept_at : Shard N g → List ℕ → Option (Where Term)
  kept_at s node = get_by (λ k. pointwise nat_eq node (key_of k)) s.kept

  -- its number
  abbrev pub number_at : Shard N g → List ℕ → Option ℕ
  number_at s node = option_map (λ t. t.index) (kept_at s node)

  -- all of these, in the order in which they were added
  abbrev pub pairs : Shard N g → List (List ℕ × ℕ)
  pairs s = map (λ e. (key_of e.0, e.1.index)) s.kept.entries

  -- the row that is kept for an integer
  abbrev pub whole_at : Shard N g → ℤ → Option (Where Term)
  whole_at s z = get_by (int_eq z) s.whole

  -- its number
  abbrev pub integer_at : Shard N g → ℤ → Option ℕ
  integer_at s z = option_map (λ t. t.index) (whole_at s z)

  -- all of these, in the order in which they were added
  abbrev pub integers : Shard N g → List (ℤ × ℕ)
  integers s = map (λ e. (e.0, e.1.index)) s.whole.entries
