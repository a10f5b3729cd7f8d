-- What stands behind the pointer owns what a box of a slot owns.
use mir.Syntax.{impl, tnil, dnil}
use mathlib.Core.Path.{◌≡◌, refl}
use mathlib.Core.List.{[]}
use denote.Signature.{Slot, plain}
use Rattle.std.specs.Prelude.{Option, Some, None, IsSome}
use Rattle.std.proofs.lemmas.Bool.{false≢true}
use Rattle.std_alloc.proofs.BoxSteps.Form.{Bx}
use Rattle.std_heap.specs.contracts.Global as Heap
use Rattle.std_heap.specs.contracts.GlobalAllocator.TheImpl.{ghosts, dict}
use Rattle.std_heap.proofs.Global.TheLaws as heap
use Rattle.bus_board.specs.contracts.seats.placed_seat.Slot as slot
use Rattle.bus_board.proofs.seats.placed_seat.Slot.TheLaws as laws
use Rattle.bus_board.specs.contracts.seats.parts.Parts as Parts
use Rattle.bus_board.specs.contracts.seats.held.Held as Held

abbrev pub E : Bx
E = record { row = slot.the_row; laws = laws.the_row_laws; al = record { row = Heap.the_row; laws = heap.the_row_laws; g = ghosts; d = dict; drops = impl [] tnil dnil } }

abbrev pub FromParts : Slot 0
FromParts = plain (λ _. Parts.the_row slot.the_row Heap.the_row ghosts)

abbrev pub FromHeld : Slot 0
FromHeld = plain (λ _. Held.the_row)

abbrev pub FromGlobal : Slot 0
FromGlobal = plain (λ _. Heap.the_row)

-- the value that there is
pub some_of : {X : Type 0} (o : Option X) → IsSome o → (x : X) × (o ≡ Some x)
some_of None e = absurd (false≢true e)
some_of (Some x) e = (x, refl)
