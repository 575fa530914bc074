-- What is built for a term.
use Rattle.std.specs.Prelude.{◌≡◌, ◌<◌, ◌≤◌}
use Rattle.elan_terms.specs.declared.tree.Term.{Term}
use Rattle.elan_terms.specs.Term.{depth}
use Rattle.elan_ac.specs.declared.node.Built.{Built}
use Rattle.elan_ac.specs.declared.node.Built.TheVariants.{Node, TooDeep}

module _ {N : Type 0} where
  -- a row of the term, where it is at most 2,000 deep; else that it is too deep
  abbrev pub IsBuilt : Term → Built N → Type 0
  IsBuilt t (Node row) = (row.value ≡ t) × (depth t ≤ 2000)
  IsBuilt t TooDeep = 2000 < depth t
