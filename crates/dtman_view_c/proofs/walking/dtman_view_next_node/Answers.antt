use Rattle.std.proofs.Common.{ap, ◌∙◌}
use Rattle.dtman_view_c.specs.Told.{node_told}
use Rattle.dtman_view_c.proofs.walking.dtman_view_next_node.Goals as goal

pub returns-clause-tells : goal.returns-clause-tells
returns-clause-tells c = (c.next_node.result, c.next_node.ensures.stands, c.node_told.ensures)

pub returns-clause-refused : goal.returns-clause-refused
returns-clause-refused c = λ n. c.node_told.ensures ∙ ap node_told (c.next_node.ensures.refused n)
