use Rattle.std.proofs.Common.{◌≡◌, map, take, drop}
use Rattle.std.specs.Vec.Iter.{into_iter_items}
use Rattle.dt_source.specs.Filled.{filled_each, filled_entry}
use Rattle.dt_source.specs.Tree.{view}
use Rattle.dt_source.proofs.FillingSteps.{left}
use Rattle.dt_source.proofs.filling.+filling.Given as goal

abbrev pub invariant-fill_statements-loop-i : goal.invariant-fill_statements-loop-i
invariant-fill_statements-loop-i l =
    goal.unvisited-fill_statements-loop-i l × (left view filled_entry (take l.i l.body.items) (drop l.i l.body.items) (into_iter_items l.binaries) ≡ filled_each filled_entry (map view l.fn.body.items) (into_iter_items l.fn.binaries))
