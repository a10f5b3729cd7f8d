use Rattle.dt_source.proofs.SourceOrder.{in_order}
use Rattle.dt_source.proofs.order.faults_are_in_order.Goals as goal

pub returns : goal.returns
returns c = in_order
