-- What a clause sees of a board and of a seat.
use Rattle.std.specs.Prelude.{◌≡◌, List}
use Rattle.atomic_table.specs.Seated.{TableId}
use Rattle.bus_plan.specs.Plan.{PlannedDevice}
use Rattle.bus_board.specs.declared.view.View.{View}

pub record Posted : Type 0 where
  pub table : TableId
  pub plan : List PlannedDevice

pub record Seated : Type 0 where
  pub table : TableId
  pub view : View

-- the seat belongs to the board
abbrev pub IsOf : Posted → Seated → Type 0
IsOf board seat = (seat.table ≡ board.table) × (seat.view.plan ≡ board.plan)
