-- A value that is one of the terms.
use Rattle.std.specs.Prelude.{ℕ, Option, List, IsFalse}
use Rattle.std.specs.List.{Contains}
use Rattle.boxcar.specs.Table.{Where}
use Rattle.elan_terms.specs.declared.tree.OpId.{OpId}
use Rattle.elan_terms.specs.declared.tree.SortId.{SortId}
use Rattle.elan_terms.specs.declared.tree.Term.{Term}
use Rattle.elan_terms.specs.declared.tree.Shapes.{Shapes}
use Rattle.elan_terms.specs.Canonical.{is_headed}
use Rattle.elan_terms.specs.Valid.{HasSort}
use Rattle.elan_table.specs.Rows.{MayStand}
use Rattle.elan_shares.specs.declared.share.Places.{Places}
use Rattle.elan_shares.specs.Shares.{After}
use Rattle.elan_shares.specs.Sizes.{Fits}

-- the operator does not head the term, which has this sort and comes after the floor
pub record Suits (shapes : Shapes) (op : OpId) (sort : SortId) (floor : Option (Where Term)) (u : Term) : Type 0 where
  pub other : IsFalse (is_headed op u)
  pub sorted : HasSort shapes u sort
  pub after : After floor u

-- one of the terms that may stand in the table and suits
pub record IsSingle (shapes : Shapes) (op : OpId) (us : List Term) (sort : SortId) (floor : Option (Where Term)) (u : Term) : Type 0 where
  pub may : MayStand shapes u
  pub there : Contains us u
  pub suits : Suits shapes op sort floor u

-- the same, where each place of the variable may take one of the `count` terms
pub record IsAlone (shapes : Shapes) (op : OpId) (places : Places) (count : ℕ) (us : List Term) (sort : SortId) (floor : Option (Where Term)) (u : Term) : Type 0 where
  pub fits : Fits places count 1
  pub single : IsSingle shapes op us sort floor u
