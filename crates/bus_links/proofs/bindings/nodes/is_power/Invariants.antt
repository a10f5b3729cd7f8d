use Rattle.std.proofs.Common.{◌≡◌, drop}
use Rattle.bus_links.specs.Bindings.LinkNodes.{is_power}
use Rattle.bus_links.proofs.bindings.nodes.is_power.Given as goal

abbrev pub invariant-loop-node : goal.invariant-loop-node
invariant-loop-node l = is_power (drop l.node-index l.nodes) ≡ is_power l.nodes
