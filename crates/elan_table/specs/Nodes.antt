-- What a term is at its top, and which nodes a table takes.
use Rattle.std.specs.Prelude.{◌<◌, List, length}
use Rattle.std.specs.List.{All, AllPairs}
use Rattle.boxcar.specs.Table.{Where}
use Rattle.elan_terms.specs.declared.tree.OpId.{OpId}
use Rattle.elan_terms.specs.declared.tree.Term.{Term}
use Rattle.elan_terms.specs.declared.tree.Shapes.{Shapes}
use Rattle.elan_terms.specs.Trees.{case_term}
use Rattle.elan_terms.specs.Term.{depth}
use Rattle.elan_terms.specs.Valid.{IsAllowed}
use Rattle.elan_terms.specs.Canonical.{IsSettled}
use Rattle.elan_terms.specs.Ascending.{NotAfter}
use Rattle.elan_table.specs.declared.node.Node.{Node}
use Rattle.elan_table.specs.declared.node.Node.TheVariants.{Int, App}

-- the integer, or the operator with the number of arguments
unfoldable pub node_of : Term → Node
node_of = case_term (λ z. Int z) (λ op ts. App op (length ts))

-- the operator takes these arguments, the application of it to them is canonical where they are, and it is at most 2,000
-- deep, since each of them is less
pub record MayMake (shapes : Shapes) (op : OpId) (ts : List Term) : Type 0 where
  pub fits : IsAllowed shapes op ts
  pub settled : IsSettled shapes op ts
  pub shallow : All (λ t. depth t < 2000) ts

-- the terms of the rows ascend in the term order; equal ones may stand there
abbrev pub RowsAscend : List (Where Term) → Type 0
RowsAscend = AllPairs (λ a b. NotAfter a.value b.value)
