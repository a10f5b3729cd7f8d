use Rattle.std.proofs.Common.{◌≡◌, ◌≤◌, ◌++◌, drop}
use Rattle.dt_tree.specs.NodeData.{siblings}
use Rattle.dt_blob.specs.BigEndian.{word}
use Rattle.dt_blob.specs.Blob.{limit}
use Rattle.dt_blob.specs.Steps.Table.{placed}
use Rattle.dt_blob.specs.Token.{sibling_tokens, tokens_of}
use Rattle.dt_blob.specs.Steps.Written.{all_bytes, tokens_size}
use Rattle.dt_blob.proofs.writer.+put_node.Given as goal

abbrev pub invariant-loop-child : goal.invariant-loop-child
invariant-loop-child l = record {
  left : l.out.items ++ (all_bytes (placed l.strings) (sibling_tokens (siblings (drop l.child-index l.child-items))) ++ word 2) ≡ l.fn.out.items ++ all_bytes (placed l.strings) (tokens_of l.node);
  fits : tokens_size (sibling_tokens (siblings (drop l.child-index l.child-items))) ≤ limit;
}
