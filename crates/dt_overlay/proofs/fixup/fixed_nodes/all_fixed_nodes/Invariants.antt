use Rattle.std.proofs.Common.{◌≡◌, ◌+◌, ◌≤◌, ℕ, length, slice_index_or}
use Rattle.dt_live.specs.Rows.{node_path}
use Rattle.dt_overlay.specs.Fixup.Private.FixedNodes.{IsFixedNode}
use Rattle.dt_overlay.specs.declared.fixup.fixed_nodes.FixedNode.TheVariants.{NotLocal}
use Rattle.dt_overlay.proofs.fixup.fixed_nodes.all_fixed_nodes.Given as goal

abbrev pub invariant-loop-row : goal.invariant-loop-row
invariant-loop-row l = record {
  count : length l.fixed_nodes.items ≡ l.row-index + 1;
  fixed_nodes : (n : ℕ) → n ≤ l.row-index → IsFixedNode l.live.nodes.items (node_path l.live n) (slice_index_or l.fixed_nodes.items n NotLocal);
}
