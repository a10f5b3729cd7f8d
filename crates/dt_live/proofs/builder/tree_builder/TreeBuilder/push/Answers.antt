use Rattle.std.proofs.Common.{rules}
use Rattle.dt_live.proofs.builder.tree_builder.TreeBuilder.push.Goals as goal

pub with_node-requires-clause-shallow : goal.with_node-requires-clause-shallow
with_node-requires-clause-shallow c = search rules

pub with_node-requires-clause-new : goal.with_node-requires-clause-new
with_node-requires-clause-new c = search rules

pub returns-clause-nodes : goal.returns-clause-nodes
returns-clause-nodes c = search rules

pub returns-clause-last_node : goal.returns-clause-last_node
returns-clause-last_node c = search rules
