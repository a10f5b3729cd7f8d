use Rattle.std.proofs.Common.{◌≡◌, map, take, drop, length}
use Rattle.std.specs.Vec.Iter.{into_iter_items}
use Rattle.dt_source.specs.Filled.{filled_each, filled_edit}
use Rattle.dt_source.specs.Tree.{item_view}
use Rattle.dt_source.proofs.FillingSteps.{left}
use Rattle.dt_source.proofs.filling.fill_items.Given as goal

abbrev pub invariant-loop-i : goal.invariant-loop-i
invariant-loop-i l =
    (length l.items.items ≡ length l.fn.items.items) × (left item_view filled_edit (take l.i l.items.items) (drop l.i l.items.items) (into_iter_items l.binaries) ≡ filled_each filled_edit (map item_view l.fn.items.items) (into_iter_items l.fn.binaries))
