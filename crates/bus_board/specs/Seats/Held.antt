-- What stands behind the pointer that a caller in C has: nothing, or the block of a slot, as a box owns it.
use Rattle.std.specs.Prelude.{◌≡◌, ◌≢◌, ℕ, Option, Some, None, IsSome}
use base.Fml.{Fml, ftrue}
use base.Stored.{Coded}
use denote.RawPtr.{Ptr}
use Rattle.std.specs.Global.{Global}
use Rattle.std.specs.Box.Ownership.{box_owns}
use Rattle.std_heap.specs.contracts.GlobalAllocator.TheImpl.{ghosts}
use Rattle.bus_board.specs.contracts.seats.placed_seat.Slot.{the_row}
use Rattle.bus_board.specs.Seats.Shown.{Placed}

abbrev pub held_owns : Global → Ptr → Option the_row.Denot → Fml
held_owns alloc at None = ftrue
held_owns alloc at (Some slot) = box_owns (ghosts.dealloc_token alloc) the_row at slot

abbrev pub slot_coded : Coded the_row.Denot
slot_coded = the_row.coded

-- the seat there, if there is one
abbrev pub seat_in : Option the_row.Denot → Option Placed
seat_in None = None
seat_in (Some slot) = slot.placed

-- the word beside the pointer tells whether a seat is there
abbrev pub IsTold : ℕ → Option the_row.Denot → Type 0
IsTold state value = (state ≡ 0 → value ≡ None) × (state ≢ 0 → IsSome (seat_in value))
