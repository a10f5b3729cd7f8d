use Rattle.std.proofs.Common.{◌≡◌, ◌++◌, drop}
use Rattle.dt_blob.specs.Blob.{reservations}
use Rattle.dt_blob.proofs.header.put_reservations.Given as goal

abbrev pub invariant-loop-reserve : goal.invariant-loop-reserve
invariant-loop-reserve l = l.out.items ++ reservations (drop l.reserve-index l.reserves) ≡ l.fn.out.items ++ reservations l.reserves
