-- what is met so far and what is left is what the node gives
use Rattle.std.proofs.Common.{◌≡◌, ◌≤◌, ◌∷◌, ◌++◌, ℕ, nat_eq, length, drop}
use Rattle.bus_plan.specs.Limits.{most_devices}
use Rattle.dt_tree.specs.NodeData.{siblings}
use Rattle.dt_tree.specs.Phandle.{or_else}
use Rattle.indexmap.specs.IndexMap.{get}
use Rattle.bus_drivers.specs.Private.Walk.{devices_among, devices_at, target_among, target_at}
use Rattle.bus_drivers.proofs.walk.Walk.+visit.Given as goal

abbrev pub invariant-loop-child : goal.invariant-loop-child
invariant-loop-child l = record {
  devices : l.self.devices.items ++ devices_among l.self.node_path.items l.here.available (siblings (drop l.child-index l.child-items)) ≡ l.fn.self.devices.items ++ devices_at l.fn.self.node_path.items l.above.available l.node;
  few : length l.self.devices.items ≤ most_devices;
  node_path : l.self.node_path.items ≡ l.fn.self.node_path.items ++ 47 ∷ l.node.name;
  targets : (phandle : ℕ) → or_else (get nat_eq l.self.targets phandle) (target_among l.here.device (length l.self.devices.items) (siblings (drop l.child-index l.child-items)) phandle)
      ≡ or_else (get nat_eq l.fn.self.targets phandle) (target_at l.above.device (length l.fn.self.devices.items) l.node phandle);
}
