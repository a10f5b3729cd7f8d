use Rattle.std.proofs.Common.{length}
use Rattle.dt_blob.specs.Steps.NodeBuilders.{state_of, begun, root_from}
use Rattle.dt_blob.specs.Steps.Reading.{tokens_at}
use Rattle.dt_blob.proofs.Stepping.{Leads}
use Rattle.dt_blob.proofs.read_nodes.root_in.Given as goal

abbrev pub invariant-tokens : goal.invariant-tokens
invariant-tokens l = Leads l.is_sized l.strings l.rest (state_of l.progress) (root_from begun (tokens_at l.is_sized l.strings l.structure))

abbrev pub decreases-tokens : goal.decreases-tokens
decreases-tokens l = length l.rest
