use Rattle.std.proofs.Common.{◌≡◌, length}
use Rattle.std.specs.Vec.Iter.{into_iter_items, into_iter_len}
use Rattle.dt_source.specs.Reading.Values.{built}
use Rattle.dt_source.proofs.PieceLoops.{empty}
use Rattle.dt_source.proofs.FillingSteps.{parts_left}
use Rattle.dt_source.proofs.filling.fill_value.Given as goal

abbrev pub invariant-loop-part : goal.invariant-loop-part
invariant-loop-part l =
    (parts_left (built l.parts) (into_iter_items l.left) (into_iter_items l.binaries) ≡ parts_left empty l.fn.value.items (into_iter_items l.fn.binaries)) × (into_iter_len l.left ≡ length (into_iter_items l.left))

abbrev pub decreases-loop-part : goal.decreases-loop-part
decreases-loop-part l = into_iter_len l.left
