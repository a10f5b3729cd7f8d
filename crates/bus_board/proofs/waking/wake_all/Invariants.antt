use Rattle.std.proofs.Common.{◌≡◌, drop}
use Rattle.bus_board.specs.Learns.{Paid}
use Rattle.bus_board.proofs.waking.wake_all.Given as goal

abbrev pub invariant-loop-device : goal.invariant-loop-device
invariant-loop-device l = (l.token.table_id ≡ l.initial.token.table_id) × (l.token.me.1 ≡ l.initial.token.me.1) × Paid l.initial.token.me.0 l.token.me.0 (drop l.device-index l.owed)
