-- what is met so far and what is left is what the tree gives
use Rattle.std.proofs.Common.{◌≡◌, ◌≤◌, ◌++◌, [], ℕ, nat_eq, length, drop}
use Rattle.bus_plan.specs.Limits.{most_devices}
use Rattle.dt_tree.specs.NodeData.{siblings}
use Rattle.dt_tree.specs.Phandle.{or_else}
use Rattle.dt_tree.specs.Private.PhandleWalk.{unreserved}
use Rattle.indexmap.specs.IndexMap.{get}
use Rattle.bus_drivers.specs.Private.Walk.{devices_among, devices_in_tree, target_among, target_in_tree}
use Rattle.bus_drivers.proofs.walk.Walk.keep_tree.Given as goal

abbrev pub invariant-loop-top : goal.invariant-loop-top
invariant-loop-top l = record {
  devices : l.self.devices.items ++ devices_among l.self.node_path.items l.here.available (unreserved (siblings (drop l.top-index l.top-items))) ≡ devices_in_tree l.root;
  few : length l.self.devices.items ≤ most_devices;
  node_path : l.self.node_path.items ≡ [];
  targets : (phandle : ℕ) → or_else (get nat_eq l.self.targets phandle) (target_among l.here.device (length l.self.devices.items) (unreserved (siblings (drop l.top-index l.top-items))) phandle)
      ≡ target_in_tree l.root phandle;
}
