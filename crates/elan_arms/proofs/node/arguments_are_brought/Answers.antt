use Rattle.elan_arms.proofs.Nodes as nodes
use Rattle.elan_arms.proofs.node.arguments_are_brought.Goals as goal

pub returns-clause-ascend : goal.returns-clause-ascend
returns-clause-ascend c = λ shapes value op ps ts ac e. nodes.arguments-ascend shapes value op ac ps ts e

pub returns-clause-some : goal.returns-clause-some
returns-clause-some c = λ shapes value op ps. nodes.some_arguments shapes value op ps

pub returns-clause-exactly : goal.returns-clause-exactly
returns-clause-exactly c = λ shapes value op ps ts ac up. nodes.arguments-exactly shapes value op ac ps ts up

pub returns-clause-many : goal.returns-clause-many
returns-clause-many c = λ shapes value op ps ts ac e. nodes.arguments-many shapes value op ac ps ts e
