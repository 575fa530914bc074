-- What a variable may take of the arguments of a node of an associative and commutative operator.
use Rattle.std.specs.Prelude.{◌≡◌, ◌+◌, ◌*◌, ◌≤◌, Option, Some, None, List, length}
use Rattle.boxcar.specs.Table.{Where}
use Rattle.elan_terms.specs.declared.tree.OpId.{OpId}
use Rattle.elan_terms.specs.declared.tree.SortId.{SortId}
use Rattle.elan_terms.specs.declared.tree.Term.{Term}
use Rattle.elan_terms.specs.declared.tree.Shapes.{Shapes}
use Rattle.elan_terms.specs.Term.{arms_under}
use Rattle.elan_terms.specs.Valid.{HasSort}
use Rattle.elan_terms.specs.Ascending.{Before, NotAfter}
use Rattle.elan_laws.specs.Parts.{times}
use Rattle.elan_table.specs.Rows.{MayStand}
use Rattle.elan_shares.specs.declared.share.Places.{Places}

-- a term comes after the floor; every term does where there is no floor
abbrev pub After : Option (Where Term) → Term → Type 0
After None u = Unit {0}
After (Some floor) u = Before floor.value u

-- A term that may stand in the table, of this sort, after the floor. What it brings under the operator stands so many
-- times among the terms as the variable has places. Of the terms that are left there is at least one for each place of
-- another variable, exactly one for each other pattern, and no other where no other variable has a place.
pub record IsShare (shapes : Shapes) (op : OpId) (us : List Term) (places : Places) (sort : SortId) (floor : Option (Where Term)) (u : Term) : Type 0 where
  pub may : MayStand shapes u
  pub sorted : HasSort shapes u sort
  pub after : After floor u
  pub among : (t : Term) → places.sought * times t (arms_under op u) ≤ times t us
  pub enough : places.sought * length (arms_under op u) + places.free + places.others ≤ length us
  pub exactly : places.free ≡ 0 → places.sought * length (arms_under op u) + places.others ≡ length us

-- what is found is the least term that is so; nothing is found where no term is so
abbrev pub FindsLeastTerm : (Term → Type 0) → Option (Where Term) → Type 0
FindsLeastTerm Is None = (u : Term) → Is u → ⊥
FindsLeastTerm Is (Some row) = Is row.value × ((u : Term) → Is u → NotAfter row.value u)
