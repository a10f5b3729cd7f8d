-- The notes of a run, one place a device: which devices have one, and which leave one.
use Rattle.std.specs.Prelude.{ℕ, Bool, true, false, not, ◌&&◌, List, Option, None, is_some, slice_index_or}
use Rattle.bus_core.specs.declared.status.Status.{Status}
use Rattle.bus_core.specs.declared.status.Status.TheVariants.{Bound, Failed, Probing, Due, Waiting, Unmatched, Disabled}

-- bound or failed
abbrev pub has_settled : Status → Bool
has_settled Bound = true
has_settled Failed = true
has_settled Probing = false
has_settled Due = false
has_settled Waiting = false
has_settled Unmatched = false
has_settled Disabled = false

-- a device that has settled, and hadn't before the run, leaves a note
abbrev pub leaves_note : Bool → Status → Bool
leaves_note before status = not before && has_settled status

abbrev pub has_note : {N : Type 0} → List (Option N) → ℕ → Bool
has_note notes d = is_some (slice_index_or notes d None)
