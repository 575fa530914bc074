use Rattle.elan_names.specs.Resolved.{seen}
use Rattle.elan_names.proofs.ValidLemmas.{read_valid}
use Rattle.elan_names.proofs.resolving.resolve.Goals as goal

pub returns-clause-valid : goal.returns-clause-valid
returns-clause-valid c = read_valid (seen c.args.site.now) c.args.sort c.args.plan.now c.read.result c.read.ensures
