use Rattle.dt_tree.proofs.tree.is_reserve.Goals as goal

pub returns-else-reserve-ne0 : goal.returns-else-reserve-ne0
returns-else-reserve-ne0 c = rw c.if-reserve-ne0.false
