use Rattle.std.proofs.Common.{◌≡◌, ◌+◌, ◌++◌, take, vec_len}
use Rattle.std.specs.Prelude.{vec_capacity}
use Rattle.bus_board.proofs.debts.owe.Given as goal

abbrev pub invariant-loop-consumer : goal.invariant-loop-consumer
invariant-loop-consumer l = (l.owed.items ≡ l.initial.owed.items ++ take l.consumer-index l.consumers) × (vec_len l.owed ≡ vec_len l.initial.owed + l.consumer-index) × (vec_capacity l.owed ≡ vec_capacity l.initial.owed)
