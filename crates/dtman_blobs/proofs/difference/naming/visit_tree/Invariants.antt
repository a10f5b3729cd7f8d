-- what is named so far and what is left is what the tree names
use Rattle.std.proofs.Common.{◌≡◌, ℕ, nat_eq, drop, []}
use Rattle.dt_tree.specs.NodeData.{siblings}
use Rattle.dt_tree.specs.Phandle.{or_else}
use Rattle.indexmap.specs.IndexMap.{get}
use Rattle.dtman_blobs.specs.Difference.Named.{boards_own, named_among, named_by}
use Rattle.dtman_blobs.proofs.difference.naming.visit_tree.Given as goal

abbrev pub invariant-loop-top : goal.invariant-loop-top
invariant-loop-top l = (phandle : ℕ) → or_else (get nat_eq l.named phandle) (named_among [] (boards_own (siblings (drop l.top-index l.top-items))) phandle)
    ≡ named_by l.root phandle
