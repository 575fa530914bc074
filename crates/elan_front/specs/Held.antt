-- What a front holds.
use Rattle.std.specs.Prelude.{ℕ, ◌≡◌, ◌<◌, List, length, set, Option, Some}
use Rattle.boxcar.specs.Table.{Where}
use Rattle.elan_terms.specs.declared.tree.Term.{Term}
use Rattle.elan_table.specs.declared.name.Name.{Ghosts}
use Rattle.elan_front.specs.declared.front.Front.{Front}

module _ {N : Type 0} {g : Ghosts N} where
  -- the row at each place, or none
  abbrev pub held : Front N g → List (Option (Where Term))
  held f = f.places.items

-- the row stands at some place, and all other places have what they had
pub record IsKept (old new : List (Option (Where Term))) (row : Where Term) : Type 0 where
  pub place : ℕ
  pub within : place < length old
  pub rest : new ≡ set old place (Some row)
