use Rattle.std.proofs.Common.{◌≤◌, ◌<◌, ℕ, length}
use Rattle.bus_plan.specs.Plan.{suppliers_of}
use Rattle.bus_board.proofs.board.most_suppliers.Given as goal

abbrev pub invariant-loop-index : goal.invariant-loop-index
invariant-loop-index l = (d : ℕ) → d < l.index → length (suppliers_of l.plan d) ≤ l.most
