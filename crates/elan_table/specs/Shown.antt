-- What a row is seen as.
use Rattle.std.specs.Prelude.{ℕ, ⊤, ◌≡◌, List, [], ◌∷◌}
use Rattle.boxcar.specs.Table.{Where}
use Rattle.elan_terms.specs.declared.tree.OpId.{OpId}
use Rattle.elan_terms.specs.declared.tree.Term.{Term}
use Rattle.elan_terms.specs.Trees.{int_term, app_term}
use Rattle.elan_terms.specs.Term.{depth}
use Rattle.elan_table.specs.Rows.{terms, node_key}
use Rattle.elan_table.specs.declared.row.RowNode.{RowNode}
use Rattle.elan_table.specs.declared.row.RowNode.TheVariants as row
use Rattle.elan_table.specs.declared.application.Application.{Application}
use Rattle.elan_table.specs.declared.application.Application.TheVariants as made
use Rattle.elan_table.specs.declared.row.Top.{Top}
use Rattle.elan_table.specs.declared.row.Top.TheVariants as node

module _ {N : Type 0} where
  -- the operator
  abbrev pub op_of : Application N → OpId
  op_of (made.Zero op) = op
  op_of (made.One op a) = op
  op_of (made.Two op a) = op
  op_of (made.Many op a) = op

  -- the rows of the arguments
  abbrev pub listed : Application N → List (Where Term)
  listed (made.Zero op) = []
  listed (made.One op a) = a
  listed (made.Two op a) = a
  listed (made.Many op a) = a

  -- both by their numbers
  abbrev pub key_of : Application N → List ℕ
  key_of a = node_key (op_of a) (listed a)

  -- the integer, or the operator over the terms of the arguments
  abbrev pub shown : RowNode N → Term
  shown (row.Int z) = int_term z
  shown (row.App d a) = app_term (op_of a) (terms (listed a))

  -- an application has its depth beside it
  abbrev pub IsDeep : RowNode N → Type 0
  IsDeep (row.Int z) = ⊤
  IsDeep (row.App d a) = d ≡ depth (app_term (op_of a) (terms (listed a)))

  -- the term whose node this is
  abbrev pub told : Top N → Term
  told (node.Int z) = int_term z
  told (node.App op a) = app_term op (terms a.now)
