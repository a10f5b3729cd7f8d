use Rattle.dt_blob.proofs.read_nodes.begin.Goals as goal

pub returns-in-Inside : goal.returns-in-Inside
returns-in-Inside c = rw c.in-Inside.is c.in_ok-begin_child-in-Inside.ensures
