-- What the calls do to the seats of handles. `Option Placed` is the seat behind a handle, None where it is empty.
use Rattle.std.specs.Prelude.{◌≡◌, ◌⊎◌, ◌<◌, ◌++◌, ℕ, Bool, if◌then◌else◌, List, [], map, drop, length, Option, Some, None, Result, ⊤}
use Rattle.bus_plan.specs.Plan.{PlannedDevice}
use Rattle.bus_core.specs.CoreState.{first_core}
use Rattle.bus_core.specs.declared.event.Reply.{Reply}
use Rattle.bus_core.specs.declared.refusal.Refusal.{Refusal}
use Rattle.bus_core.specs.declared.refusal.Refusal.TheVariants.{NoMemory, NotIdle}
use Rattle.bus_board.specs.Ends.{EndsAs}
use Rattle.bus_board.specs.Learns.{GivenBack, NotGivenBack, Paid}
use Rattle.bus_board.specs.Rule.{OpensAs}
use Rattle.bus_board.specs.Views.{opener, newcomer, lender}
use Rattle.bus_board.specs.Words.{number_of}
use Rattle.bus_board.specs.declared.view.View.{View}
use Rattle.bus_board.specs.declared.words.Word.{Word}
use Rattle.bus_board.specs.Seats.Shown.{Placed}
use Rattle.bus_board.specs.Seats.Steps.{HasTaken, HasLooked, HasSettled, HasDeferred}
use Rattle.bus_board.specs.Seats.Told.{done, refused, no_seat, is_occupied, is_shared, is_short, take_told, look_told, settle_told, step_told}
use Rattle.bus_board.specs.declared.seats.told.Told.{Told}

-- A call of one seat: an empty handle stays empty and is told; else the seat takes the step, and stays one of its board.
abbrev pub OnSeat : (View → View → Told → Type 0) → Option Placed → Option Placed → Told → Type 0
OnSeat Does None after told = (told ≡ no_seat) × (after ≡ None)
OnSeat Does (Some p) after told = (q : Placed) × (after ≡ Some q) × (q.board ≡ p.board) × Does p.seat.view q.seat.view told

abbrev pub Takes : View → View → Told → Type 0
Takes v w told = (r : Result (Option ℕ) Refusal) × HasTaken v w r × (told ≡ take_told r)

abbrev pub Looks : ℕ → View → View → Told → Type 0
Looks supplier v w told = (r : Result Bool Refusal) × HasLooked supplier v w r × (told ≡ look_told r)

abbrev pub Settles : View → View → Told → Type 0
Settles v w told = (r : Result Reply Refusal) × HasSettled v w r × (told ≡ settle_told r)

abbrev pub Defers : ℕ → View → View → Told → Type 0
Defers supplier v w told = (r : Result (Unit {0}) Refusal) × HasDeferred supplier v w r × (told ≡ step_told r)

abbrev pub WakesOwed : View → View → Told → Type 0
WakesOwed v w told = Paid v w [] × (told ≡ done 0 0)

-- the first seat of a board of the plan on which nothing was begun
abbrev pub IsOpened : List PlannedDevice → Option Placed → Type 0
IsOpened plan after = (p : Placed) × (after ≡ Some p) × (p.board.plan ≡ plan) × (p.seat.view ≡ opener (first_core plan)) × OpensAs (first_core plan) p.seat.view

-- the seat p became l, which keeps half of its share of the board, and q is a further seat with the other half
abbrev pub IsFurther : Placed → Placed → Placed → Type 0
IsFurther p l q = (l.board ≡ p.board) × (l.seat.view ≡ lender p.seat.view) × (q.board ≡ p.board) × (q.seat.view ≡ newcomer p.seat.view)

-- a further seat beside p, or none for want of memory
abbrev pub IsSeated : Placed → Option Placed → Option Placed → Told → Type 0
IsSeated p left after told =
    ((l q : Placed) × (left ≡ Some l) × (after ≡ Some q) × IsFurther p l q × (told ≡ done 0 0))
    ⊎ ((left ≡ Some p) × (after ≡ None) × (told ≡ refused NoMemory))

-- a further seat goes into an empty handle, and what is left of the given one stays in its own
abbrev pub Seats : Option Placed → Option Placed → Option Placed → Option Placed → Told → Type 0
Seats from left (Some q) after told = (told ≡ is_occupied) × (left ≡ from) × (after ≡ Some q)
Seats None left None after told = (told ≡ no_seat) × (left ≡ None) × (after ≡ None)
Seats (Some p) left None after told = IsSeated p left after told

-- seats that are given back to each other are of one board
abbrev pub AreOfOne : Option Placed → Option Placed → Type 0
AreOfOne None other = ⊤
AreOfOne (Some p) None = ⊤
AreOfOne (Some p) (Some q) = q.board ≡ p.board

-- the seat q was given back to p, or stays
abbrev pub IsGiven : Placed → Placed → Option Placed → Option Placed → Told → Type 0
IsGiven p q into after told =
    ((w : Placed) × (into ≡ Some w) × (w.board ≡ p.board) × GivenBack p.seat.view q.seat.view w.seat.view × (after ≡ None) × (told ≡ done 0 0))
    ⊎ ((into ≡ Some p) × (after ≡ Some q) × NotGivenBack q.seat.view NotIdle × (told ≡ refused NotIdle))

abbrev pub GivesBack : Option Placed → Option Placed → Option Placed → Option Placed → Told → Type 0
GivesBack None other into after told = (told ≡ no_seat) × (into ≡ None) × (after ≡ other)
GivesBack (Some p) None into after told = (told ≡ no_seat) × (into ≡ Some p) × (after ≡ None)
GivesBack (Some p) (Some q) into after told = IsGiven p q into after told

-- the numbers of the words, each in a byte, at the front of the buffer
abbrev pub with_words : List Word → List ℕ → List ℕ
with_words words before = map number_of words ++ drop (length words) before

-- the board ends with its last seat
abbrev pub IsClosed : Placed → List ℕ → List ℕ → Told → Type 0
IsClosed p before after told =
    (words : List Word)
    × (quiet : Bool)
    × EndsAs p.board.plan p.seat.view words quiet
    × (after ≡ with_words words before)
    × (told ≡ done (if quiet then 1 else 0) (length p.board.plan))

-- the board goes on: there is no room for its words, or it has other seats
abbrev pub GoesOn : Placed → List ℕ → Told → Type 0
GoesOn p before told = ((length before < length p.board.plan) × (told ≡ is_short (length p.board.plan))) ⊎ (told ≡ is_shared)

abbrev pub Closes : Option Placed → List ℕ → Option Placed → List ℕ → Told → Type 0
Closes None before after out told = (told ≡ no_seat) × (after ≡ None) × (out ≡ before)
Closes (Some p) before after out told = ((after ≡ None) × IsClosed p before out told) ⊎ ((after ≡ Some p) × (out ≡ before) × GoesOn p before told)
