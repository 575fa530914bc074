-- The sort of an application.
use Rattle.std.proofs.Common.{◌≡◌, ap, ◌∙◌, Some, List, slice_get}
use Rattle.std.specs.Prelude.{option_map}
use Rattle.elan_terms.specs.declared.tree.OpId.{OpId}
use Rattle.elan_terms.specs.declared.tree.Term.{Term}
use Rattle.elan_terms.specs.Trees.{app_term}
use Rattle.elan_terms.specs.Term.{sort_of, shape_sort}
use Rattle.elan_program.specs.declared.signature.Operator.{Operator}
use Rattle.elan_program.specs.declared.signature.Signature.{Signature}
use Rattle.elan_program.specs.Signature.{shape_of, shapes_of}
use Rattle.elan_laws.proofs.CanonicalLaws.{sort-of_app}
use Rattle.elan_reading.proofs.Sound.{shape_at}

-- it is the sort that its operator makes
pub sort_at : (g : Signature) (op : OpId) (o : Operator) (ts : List Term) → slice_get g.operators op.0 ≡ Some o → sort_of (shapes_of g) (app_term op ts) ≡ Some o.sort
unfolding shapes_of
sort_at g op o ts e = sort-of_app (shapes_of g) op ts ∙ ap shape_sort (shape_at g op.0 ∙ ap (option_map shape_of) e)
