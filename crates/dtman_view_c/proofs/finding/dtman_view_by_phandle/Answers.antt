use Rattle.dtman_view_c.proofs.finding.dtman_view_by_phandle.Goals as goal

pub returns : goal.returns
returns c = (c.by_phandle.result, c.by_phandle.ensures, c.node_told.ensures)
