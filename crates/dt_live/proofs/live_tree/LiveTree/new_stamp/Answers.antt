use Rattle.std.proofs.Common.{refl}
use Rattle.dt_live.proofs.live_tree.LiveTree.new_stamp.Goals as goal

pub returns-clause-stamp : goal.returns-clause-stamp
returns-clause-stamp g c = refl

pub returns-clause-new : goal.returns-clause-new
returns-clause-new g c = λ _. c.in_ok-stamp.ensures.1
