use Rattle.std.proofs.Common.{rules}
use Rattle.dt_live.proofs.builder.tree_builder.TreeBuilder.new.Goals as goal

pub returns-clause-properties : goal.returns-clause-properties
returns-clause-properties c = search rules
