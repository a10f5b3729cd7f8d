use Rattle.dtman_view_c.proofs.finding.dtman_view_next_compatible.Goals as goal

pub returns : goal.returns
returns c = (c.next_compatible.result, c.next_compatible.ensures, c.node_told.ensures)
