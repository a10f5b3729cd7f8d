use Rattle.std.proofs.Common.{ap, ◌∙◌}
use Rattle.dtman_view_c.specs.Told.{node_told}
use Rattle.dtman_view_c.proofs.walking.dtman_view_parent.Goals as goal

pub returns-clause-root : goal.returns-clause-root
returns-clause-root c = λ tree v i. c.node_told.ensures ∙ ap node_told (c.parent.ensures.root tree v i)

pub returns-clause-below : goal.returns-clause-below
returns-clause-below c = (c.parent.result, c.parent.ensures.below, c.node_told.ensures)

pub returns-clause-refused : goal.returns-clause-refused
returns-clause-refused c = λ n. c.node_told.ensures ∙ ap node_told (c.parent.ensures.refused n)
