use Rattle.std.proofs.Common.{[], take}
use Rattle.dt_blob.specs.Strings.{with_names}
use Rattle.dt_blob.specs.Steps.Table.{IsPlacedBehind}
use Rattle.dt_blob.proofs.strings.place_all.Given as goal

abbrev pub invariant-loop-at : goal.invariant-loop-at
invariant-loop-at l = IsPlacedBehind l.names l.places (with_names [] (take l.at l.names)) l.size
