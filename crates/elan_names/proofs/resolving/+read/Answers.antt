use Rattle.std.proofs.Common.{◌∙◌, sym, ap}
use Rattle.elan_phrases.specs.declared.plan.PlanNode.TheVariants as node
use Rattle.elan_names.proofs.ResolveLemmas.{give-name, give-applied}
use Rattle.elan_names.proofs.resolving.+read.Goals as goal

pub read-returns-in-Name : goal.read-returns-in-Name
read-returns-in-Name t c = give-name _ _ _ _ c.name_at.result c.in-Name.is c.name_at.ensures

pub read-returns-in-Applied : goal.read-returns-in-Applied
read-returns-in-Applied t c =
    give-applied _ _ _ _ _ c.applied_at.result (c.in-Applied.is ∙ ap (node.Applied _) (sym c.as_slice.ensures)) c.applied_at.ensures
