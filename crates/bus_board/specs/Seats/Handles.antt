-- The seat of a handle.
use Rattle.std.specs.Prelude.{Option}
use Rattle.bus_board.specs.Seats.Held.{seat_in}
use Rattle.bus_board.specs.Seats.Shown.{Placed}
use Rattle.bus_board.specs.declared.seats.handle.SeatHandle.{SeatHandle}

-- the seat behind it, with its board; None where it is empty
abbrev pub seated : SeatHandle → Option Placed
seated handle = seat_in handle.held.value
