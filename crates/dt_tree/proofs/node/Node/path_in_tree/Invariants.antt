use Rattle.std.proofs.Common.{◌≡◌, drop}
use Rattle.dt_tree.specs.NodeData.{siblings}
use Rattle.dt_tree.specs.Private.PhandleWalk.{unreserved, path_among, path_in_tree}
use Rattle.dt_tree.proofs.node.Node.path_in_tree.Given as goal

abbrev pub invariant-loop-top : goal.invariant-loop-top
invariant-loop-top l = path_among (unreserved (siblings (drop l.top-index l.top-items))) l.phandle ≡ path_in_tree l.self l.phandle
