use Rattle.dtman_view_c.proofs.finding.dtman_view_find_like.Goals as goal

pub returns : goal.returns
returns c = (c.find_like.result, c.find_like.ensures, c.node_told.ensures)
