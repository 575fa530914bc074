-- What holds of each integer and each application in a term.
use Rattle.std.specs.Prelude.{ℤ, List}
use Rattle.elan_terms.specs.declared.tree.OpId.{OpId}
use Rattle.elan_terms.specs.declared.tree.Term.{Term}
use Rattle.elan_terms.specs.declared.tree.TermNode as term

-- `Int` holds of each integer, and `App` of the operator and the arguments of each application
module _ (Int : ℤ → Type 0) (App : OpId → List Term → Type 0) where
  abbrev mutual
    pub EachNode : term.TermNode → Type 0
    EachNode (term.Int z) = Int z
    EachNode (term.App' op shape row) = App op (term.items-the_row-Term _ row) × EachOfRow row

    pub EachOfRow : {n : _} → term.Row_of-Term n → Type 0
    EachOfRow term.end_of-Term = Unit {0}
    EachOfRow (term.more_of-Term x rest) = EachNode x × EachOfRow rest

-- the same of a whole term
abbrev pub Throughout : (ℤ → Type 0) → (OpId → List Term → Type 0) → Term → Type 0
Throughout Int App t = EachNode Int App t.node
