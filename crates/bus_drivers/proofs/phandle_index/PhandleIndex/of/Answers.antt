-- A walk over a tree keeps what its phandle index is about.
use Rattle.indexmap.specs.IndexMap.{get}
use Rattle.std.proofs.Common.{nat_eq}
use Rattle.bus_drivers.proofs.WalkEntries.{tree-refused, tree-kept, tree-few}
use Rattle.bus_drivers.proofs.phandle_index.PhandleIndex.of.Goals as goal

pub returns-in_err-walk : goal.returns-in_err-walk
returns-in_err-walk c = tree-refused c.from_residual.result _ c.args.tree.now c.root-root.result.now _ c.from_residual.ensures.1 c.check.ensures c.root-root.ensures c.in_err-walk.ensures.err

pub invariant_of-result : goal.invariant_of-result
invariant_of-result c =
    tree-kept c.args.tree.now c.root-root.result.now c.in_ok-walk.walk.devices.items (get nat_eq c.in_ok-walk.walk.targets) c.check.ensures c.root-root.ensures c.in_ok-walk.ensures.devices c.in_ok-walk.ensures.targets

pub returns : goal.returns
returns c = (c.root-root.ensures, tree-few c.args.tree.now c.root-root.result.now c.in_ok-walk.walk.devices.items c.check.ensures c.root-root.ensures c.in_ok-walk.ensures.devices c.in_ok-walk.ensures.few)
