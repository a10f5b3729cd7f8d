use Rattle.std.proofs.Common.{◌≡◌, drop}
use Rattle.dt_tree.specs.NodeData.{siblings}
use Rattle.dt_blob.specs.Blob.{names_in}
use Rattle.dt_blob.specs.Steps.Table.{with_sights}
use Rattle.dt_blob.specs.Token.{sibling_tokens, tokens_of}
use Rattle.dt_blob.proofs.names.Names.+note_node.Given as goal

abbrev pub invariant-loop-child : goal.invariant-loop-child
invariant-loop-child l = with_sights l.self (names_in (sibling_tokens (siblings (drop l.child-index l.child-items)))) ≡ with_sights l.fn.self (names_in (tokens_of l.node))
