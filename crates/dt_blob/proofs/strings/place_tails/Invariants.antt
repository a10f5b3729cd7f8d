use Rattle.std.proofs.Common.{◌≡◌, ◌+◌, ◌++◌, true, List, ℕ, drop, length}
use Rattle.dt_blob.specs.Strings.{ended}
use Rattle.dt_blob.specs.Steps.Table.{IsTable, IsClosed, Pending, no_zero}
use Rattle.dt_blob.proofs.strings.place_tails.Given as goal

abbrev pub invariant-loop-skipped : goal.invariant-loop-skipped
invariant-loop-skipped l = (block : List ℕ) → length block ≡ l.start → IsClosed block → no_zero l.name ≡ true → IsTable l.names l.fn.places block → Pending l.names l.places (block ++ ended l.name) (l.start + l.skipped) (drop l.skipped l.name)
