use Rattle.std.proofs.Common.{ap, ◌∙◌}
use Rattle.dtman_view_c.specs.Told.{node_told}
use Rattle.dtman_view_c.proofs.finding.dtman_view_child_like.Goals as goal

pub returns-clause-tells : goal.returns-clause-tells
returns-clause-tells c = (c.child_like.result, c.child_like.ensures.stands, c.node_told.ensures)

pub returns-clause-refused : goal.returns-clause-refused
returns-clause-refused c = λ n. c.node_told.ensures ∙ ap node_told (c.child_like.ensures.refused n)
