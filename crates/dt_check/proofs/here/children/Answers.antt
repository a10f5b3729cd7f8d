use Rattle.std.proofs.Common.{ap, sym, ◌∙◌}
use Rattle.dt_tree.specs.NodeData.{nodes_of}
use Rattle.dt_check.proofs.ListLemmas.{nodes_of-siblings}
use Rattle.dt_check.proofs.here.children.Goals as goal

pub returns : goal.returns
returns c = sym (nodes_of-siblings c.children.result.now) ∙ ap nodes_of c.children.ensures.nodes
