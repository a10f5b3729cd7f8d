use Rattle.std.proofs.Common.{ap, ◌∙◌}
use Rattle.dtman_view_c.specs.Told.{node_told}
use Rattle.dtman_view_c.proofs.walking.dtman_view_first_child.Goals as goal

pub returns-clause-tells : goal.returns-clause-tells
returns-clause-tells c = (c.first_child.result, c.first_child.ensures.stands, c.node_told.ensures)

pub returns-clause-refused : goal.returns-clause-refused
returns-clause-refused c = λ n. c.node_told.ensures ∙ ap node_told (c.first_child.ensures.refused n)
