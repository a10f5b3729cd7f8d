use Rattle.std.proofs.Common.{◌≡◌, drop}
use Rattle.dt_tree.specs.NodeData.{siblings}
use Rattle.dt_tree.specs.Private.PhandleWalk.{path_among, path_below}
use Rattle.dt_tree.proofs.node.Node.+path_below.Given as goal

abbrev pub invariant-loop-child : goal.invariant-loop-child
invariant-loop-child l = path_among (siblings (drop l.child-index l.child-items)) l.phandle ≡ path_below l.self l.phandle
