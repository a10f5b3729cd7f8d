use Rattle.dt_build.proofs.ResolveLemmas.FreeNumbers.{each-node, kth-free, one-number}
use Rattle.dt_build.proofs.resolve.laws.phandles_in_order.Goals as goal

pub returns-clause-nodes : goal.returns-clause-nodes
returns-clause-nodes c = each-node

pub returns-clause-numbers : goal.returns-clause-numbers
returns-clause-numbers c = kth-free

pub returns-clause-one : goal.returns-clause-one
returns-clause-one c = one-number
