-- what is named so far and what is left is what the node names
use Rattle.std.proofs.Common.{◌≡◌, ℕ, nat_eq, drop}
use Rattle.dt_tree.specs.NodeData.{siblings}
use Rattle.dt_tree.specs.Phandle.{or_else}
use Rattle.indexmap.specs.IndexMap.{get}
use Rattle.dtman_blobs.specs.Difference.Named.{named_among}
use Rattle.dtman_blobs.specs.Difference.Private.Kept.{named_at}
use Rattle.dtman_blobs.proofs.difference.naming.+visit.Given as goal

abbrev pub invariant-loop-child : goal.invariant-loop-child
invariant-loop-child l = (phandle : ℕ) → or_else (get nat_eq l.named phandle) (named_among l.path (siblings (drop l.child-index l.child-items)) phandle)
    ≡ or_else (get nat_eq l.fn.named phandle) (named_at l.path l.node phandle)
