use Rattle.std.proofs.Common.{◌≡◌, ◌+◌, ◌≤◌, ◌++◌, drop, length}
use Rattle.dt_tree.specs.NodeData.{siblings}
use Rattle.dt_blob.specs.Blob.{limit}
use Rattle.dt_blob.specs.SourceText.{sibling_lines, end_line, node_lines}
use Rattle.dt_blob.proofs.printing.+put_node.Given as goal

abbrev pub invariant-loop-child : goal.invariant-loop-child
invariant-loop-child l = record {
  left : l.out.items ++ (sibling_lines (l.depth + 1) (siblings (drop l.child-index l.child-items)) ++ end_line l.depth) ≡ l.fn.out.items ++ node_lines l.depth l.name l.node;
  fits : length l.out.items ≤ limit;
}
