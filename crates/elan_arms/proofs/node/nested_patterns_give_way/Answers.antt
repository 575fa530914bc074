use Rattle.std.proofs.Common.{◌≡◌, false}
use Rattle.elan_terms.proofs.Lists.{all_from}
use Rattle.elan_arms.specs.Arms.{heads, taken_apart}
use Rattle.elan_arms.proofs.Nodes as nodes
use Rattle.elan_arms.proofs.node.nested_patterns_give_way.Goals as goal

pub returns-clause-nested : goal.returns-clause-nested
returns-clause-nested c = λ shapes value op u ps ac. nodes.nested-times shapes value op ac u ps

pub returns-clause-many : goal.returns-clause-many
returns-clause-many c = λ shapes value op ps ac. nodes.nested-many shapes value op ac ps

pub returns-clause-apart : goal.returns-clause-apart
returns-clause-apart c = λ shapes value op u ps ac. nodes.apart-times shapes value op ac u ps

pub returns-clause-same : goal.returns-clause-same
returns-clause-same c = λ shapes value op ps ac. nodes.apart-makes shapes value op ac ps

pub returns-clause-none : goal.returns-clause-none
returns-clause-none c = λ op ps. all_from (λ p. heads op p ≡ false) (taken_apart op ps) (nodes.none-headed op ps)
