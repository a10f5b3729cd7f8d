-- What a phandle index keeps of its tree: the devices, and each phandle with its target, once.
use Rattle.std.specs.Prelude.{◌≡◌, ℕ, List, Option}
use Rattle.dt_tree.specs.NodeData.{NodeData}
use Rattle.bus_drivers.specs.Nodes.{TreeDevice, Target, tree_devices, target_of}

pub record IsPhandleIndex (root : NodeData) (devices : List TreeDevice) (target : ℕ → Option Target) : Type 0 where
  pub all_devices : devices ≡ tree_devices root
  pub all_targets : (phandle : ℕ) → target phandle ≡ target_of root phandle
