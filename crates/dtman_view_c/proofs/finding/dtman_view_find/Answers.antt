use Rattle.std.proofs.Common.{ap, ◌∙◌}
use Rattle.dtman_view_c.specs.Told.{node_told}
use Rattle.dtman_view_c.proofs.finding.dtman_view_find.Goals as goal

pub returns-clause-tells : goal.returns-clause-tells
returns-clause-tells c = (c.find.result, c.find.ensures.found, c.node_told.ensures)

pub returns-clause-bad_path : goal.returns-clause-bad_path
returns-clause-bad_path c = λ e. c.node_told.ensures ∙ ap node_told (c.find.ensures.bad_path.1 e)
