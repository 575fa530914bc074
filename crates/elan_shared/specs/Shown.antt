-- What a shared term is seen as.
use Rattle.std.specs.Prelude.{⊤, ◌≡◌, ◌-◌, ◌^◌, min}
use Rattle.elan_terms.specs.declared.tree.Term.{Term}
use Rattle.elan_terms.specs.Trees.{int_term, app_term}
use Rattle.elan_terms.specs.Term.{depth}
use Rattle.elan_shared.specs.declared.tree.SharedNode.{SharedNode}
use Rattle.elan_shared.specs.declared.tree.SharedNode.TheVariants.{Int, App}

-- the integer, or the operator over what the arguments are seen as
abbrev pub shown : SharedNode → Term
shown (Int z) = int_term z
shown (App a) = app_term a.value.op a.value.args

-- an application has its depth beside it, as far as it fits into 64 bits
abbrev pub IsDeep : SharedNode → Type 0
IsDeep (Int z) = ⊤
IsDeep (App a) = a.value.depth ≡ min (depth (app_term a.value.op a.value.args)) (2 ^ 64 - 1)
