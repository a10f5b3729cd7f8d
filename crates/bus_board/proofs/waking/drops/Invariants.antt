use Rattle.std.proofs.Common.{◌≡◌}
use Rattle.bus_plan.specs.Plan.{suppliers_of}
use Rattle.bus_board.specs.Private.Checks.{HasChecked}
use Rattle.bus_board.proofs.waking.drops.Given as goal

abbrev pub invariant-loop-place : goal.invariant-loop-place
invariant-loop-place l = (l.token.table_id ≡ l.initial.token.table_id) × (l.token.me.1 ≡ l.initial.token.me.1) × HasChecked l.initial.token.me.0 l.token.me.0 (suppliers_of l.plan l.device) l.from l.place
