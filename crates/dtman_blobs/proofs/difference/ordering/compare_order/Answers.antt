use Rattle.std.proofs.Common.{◌≡◌, ℕ, ◌+◌, length, ap, ◌∙◌, arith}
use Rattle.dtman_blobs.specs.Difference.Private.Orders.{node_moves}
use Rattle.dtman_blobs.proofs.DifferenceLemmas.OrderLaws.{one-order}
use Rattle.dtman_blobs.proofs.difference.ordering.compare_order.Goals as goal

from-none : (x : ℕ) → 0 + x ≡ x
from-none x = omega arith

pub returns : goal.returns
returns c =
    one-order c.args.first.now c.args.second.now c.check.ensures c.check-2.ensures _
    (c.in_ok-add_node.ensures ∙ ap (λ items. length items + node_moves c.root.result.now c.root-2.result.now) c.new-found.ensures.items
    ∙ from-none (node_moves c.root.result.now c.root-2.result.now)
    ∙ ap (λ a. node_moves a c.root-2.result.now) c.root.ensures ∙ ap (node_moves c.args.first.now.root) c.root-2.ensures)
