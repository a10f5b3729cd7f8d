-- Words on the histories of the bus.
use Rattle.std.specs.Prelude.{◌≡◌, ◌==◌, ℕ, nat_le, if◌then◌else◌, List, [], ◌∷◌, ◌++◌, length, Option, Some, None}
use Rattle.bus_plan.specs.Plan.{PlannedDevice, suppliers_of}
use Rattle.bus_core.specs.declared.settle.Settle.{Settle}
use Rattle.bus_core.specs.declared.settle.Outcome.{Outcome}
use Rattle.bus_core.specs.declared.settle.Outcome.TheVariants.{Bound}
use Rattle.bus_board.specs.Lists.{Has}

abbrev pub History : Type 0
History = List Settle

-- how the device settled, in a history that has it once at most
abbrev pub outcome_of : History → ℕ → Option Outcome
outcome_of [] d = None
outcome_of (s ∷ h) d = if s.device == d then Some s.outcome else outcome_of h d

-- each supplier of the device is bound in the history
abbrev pub AllBound : List PlannedDevice → History → ℕ → Type 0
AllBound plan h d = (s : ℕ) → Has (suppliers_of plan d) s → outcome_of h s ≡ Some Bound

-- the history goes on from this front of it
abbrev pub IsFront : History → History → Type 0
IsFront front h = (rest : History) × (h ≡ front ++ rest)

abbrev pub longer : History → History → History
longer f g = if nat_le (length g) (length f) then f else g

abbrev pub shorter : History → History → History
shorter f g = if nat_le (length g) (length f) then g else f
