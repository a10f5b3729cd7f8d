-- What is behind the pointer may cross threads, as a box of a slot may.
use mir.Raw.{raw}
use base.Shift.{Keyless}
use denote.Memory.{lone}
use denote.RawPtr.{Ptr}
use denote.Struct.Struct.{exits_of}
use denote.Struct.Owning.{shape, fields, to}
use denote.Param.Send.{IsSend, AllSend, owning_send, struct_send, sendable}
use Rattle.std.specs.Global.{Global}
use Rattle.std.specs.Prelude.{Option, Some, None}
use Rattle.std.proofs.Crossing as heap
use Rattle.std_alloc.proofs.SendSync.{quiet, lies}
use Rattle.std_heap.proofs.Global.TheSendSync as handle
use Rattle.bus_board.specs.Seats.Held.{held_owns}
use Rattle.bus_board.specs.contracts.seats.placed_seat.Slot as Slot
use Rattle.bus_board.proofs.seats.placed_seat.Slot.TheSendSync.{the_send as slot}
use Rattle.bus_board.specs.contracts.seats.held.Held.{the_row, the_type}

keyless : (alloc : Global) (at : Ptr) (value : Option Slot.the_row.Denot) → Keyless (held_owns alloc at value)
keyless alloc at None = tt
keyless alloc at (Some x) = (lies Slot.the_row slot at x, heap.frees.frees alloc (raw (lone Slot.the_row.mir)) at)

pub send : IsSend the_row
send =
    let all : AllSend (fields the_type) = (search sendable, (handle.the_field_send, tt)) in
    owning_send the_type all (λ d. keyless d.alloc d.at d.value)
    (λ k. quiet (to the_type) (exits_of k (fields the_type)) ((struct_send (shape the_type) all).leaving k))
