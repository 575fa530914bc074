-- The node at the top of a term.
use Rattle.std.specs.Prelude.{List, []}
use Rattle.elan_terms.specs.declared.tree.Term.{Term}
use Rattle.elan_terms.specs.Trees.{case_term, int_term, app_term}
use Rattle.elan_shared.specs.declared.tree.Node.{Node}
use Rattle.elan_shared.specs.declared.tree.Node.TheVariants.{Int, App}

-- the term whose node this is
abbrev pub told : Node → Term
told (Int z) = int_term z
told (App op args) = app_term op args.now

-- the arguments from left to right; an integer has none
unfoldable pub arguments : Term → List Term
arguments = case_term (λ _. []) (λ _ ts. ts)
