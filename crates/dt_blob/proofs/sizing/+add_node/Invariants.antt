use Rattle.std.proofs.Common.{◌≡◌, ◌+◌, ◌≤◌, drop}
use Rattle.dt_tree.specs.NodeData.{siblings}
use Rattle.dt_blob.specs.Blob.{limit}
use Rattle.dt_blob.specs.Token.{sibling_tokens, tokens_of}
use Rattle.dt_blob.specs.Steps.Written.{tokens_size}
use Rattle.dt_blob.proofs.sizing.+add_node.Given as goal

abbrev pub invariant-loop-child : goal.invariant-loop-child
invariant-loop-child l = record {
  left : l.size + (tokens_size (sibling_tokens (siblings (drop l.child-index l.child-items))) + 4) ≡ l.used + tokens_size (tokens_of l.node);
  fits : l.size ≤ limit;
}
