-- What a call of a seat tells.
use Rattle.std.specs.Prelude.{ℕ, Bool, true, false, Option, Some, None, Result, Ok, Err}
use Rattle.bus_core.specs.Refusal.{number_of}
use Rattle.bus_core.specs.declared.event.Reply.{Reply}
use Rattle.bus_core.specs.declared.event.Reply.TheVariants.{Bound, Failed, Waiting, Again}
use Rattle.bus_core.specs.declared.refusal.Refusal.{Refusal}
use Rattle.bus_board.specs.declared.seats.told.Told.{Told}

-- it is done
abbrev pub done : ℕ → ℕ → Told
done number device = record { status = 0; number = number; device = device }

-- so many words want room
abbrev pub is_short : ℕ → Told
is_short devices = record { status = 1; number = 0; device = devices }

-- the board refuses
abbrev pub refused : Refusal → Told
refused refusal = record { status = 2; number = number_of refusal; device = 0 }

-- no device is left to take
abbrev pub nothing : Told
nothing = record { status = 4; number = 0; device = 0 }

-- the handle is empty
abbrev pub no_seat : Told
no_seat = record { status = 5; number = 0; device = 0 }

-- the handle to be filled isn't empty
abbrev pub is_occupied : Told
is_occupied = record { status = 6; number = 0; device = 0 }

-- other seats of the board aren't given back
abbrev pub is_shared : Told
is_shared = record { status = 7; number = 0; device = 0 }

-- ---- the answers of the board's calls
abbrev pub take_told : Result (Option ℕ) Refusal → Told
take_told (Ok (Some device)) = done 0 device
take_told (Ok None) = nothing
take_told (Err refusal) = refused refusal

-- 1 where the supplier was found bound
abbrev pub look_told : Result Bool Refusal → Told
look_told (Ok true) = done 1 0
look_told (Ok false) = done 0 0
look_told (Err refusal) = refused refusal

-- the word of the device that settled
abbrev pub settle_told : Result Reply Refusal → Told
settle_told (Ok Bound) = done 5 0
settle_told (Ok Failed) = done 6 0
settle_told (Ok Waiting) = done 6 0
settle_told (Ok Again) = done 6 0
settle_told (Err refusal) = refused refusal

abbrev pub step_told : Result (Unit {0}) Refusal → Told
step_told (Ok it) = done 0 0
step_told (Err refusal) = refused refusal
