-- What the parts of a run say of its notes.
use Rattle.std.specs.Prelude.{◌≡◌, ◌≢◌, ◌<◌, ℕ, Bool, true, List, Option, Some, None, length, slice_index_or, All}
use Rattle.std.specs.List.{list_all}
use Rattle.bus_plan.specs.Plan.{PlannedDevice, suppliers_of}
use Rattle.bus_core.specs.Least.{IsClosed}
use Rattle.bus_core.specs.declared.event.Report.{Report}
use Rattle.bus_core.specs.declared.event.Report.TheVariants.{Settled}
use Rattle.bus_core.specs.declared.status.Status.{Status}
use Rattle.bus_manager.specs.declared.notes.Ran.{Ran}
use Rattle.bus_manager.specs.declared.worker.Noted.{Noted}
use Rattle.bus_manager.specs.Notes.{has_note, leaves_note}
use Rattle.bus_manager.specs.Run.{IsRunAfter}

-- each device of the set is in every closed set, so it is bound at the end, whatever comes first
abbrev pub AreForced : List PlannedDevice → (ℕ → Bool) → Type 0
AreForced plan seen = (s : ℕ) → seen s ≡ true → (set : ℕ → Bool) → IsClosed plan set → set s ≡ true

-- what a note shows of its device before the end is known
pub record IsShown {N : Type 0} (attests : (ℕ → Bool) → Report → N → Type 0) (plan : List PlannedDevice) (d : ℕ) (note : N) : Type 0 where
  pub seen : ℕ → Bool
  pub suppliers : list_all seen (suppliers_of plan d) ≡ true
  pub forced : AreForced plan seen
  pub attested : attests seen Settled note

-- each note that is there shows its device
pub record AreNotes {N : Type 0} (attests : ℕ → (ℕ → Bool) → Report → N → Type 0) (plan : List PlannedDevice) (notes : List (Option N)) : Type 0 where
  pub places : length notes ≡ length plan
  pub attested : (d : ℕ) (note : N) → slice_index_or notes d None ≡ Some note → IsShown (attests d) plan d note

-- a device's place has a note exactly where the device has settled, and no other place has changed
pub record IsNoted {N : Type 0} (settled : Bool) (old new : List (Option N)) (device : ℕ) : Type 0 where
  pub here : has_note new device ≡ settled
  pub others : (d : ℕ) → d ≢ device → slice_index_or new d None ≡ slice_index_or old d None

-- so does each of those that workers found
abbrev pub AreAttested : {N : Type 0} → (ℕ → (ℕ → Bool) → Report → N → Type 0) → List PlannedDevice → List (Noted N) → Type 0
AreAttested attests plan found = All (λ n. IsShown (attests n.device) plan n.device n.note) found

-- exactly the devices have a note that have settled by their status and hadn't before
abbrev pub AreNoted : {N : Type 0} → List PlannedDevice → (ℕ → Bool) → (ℕ → Status) → List (Option N) → Type 0
AreNoted plan before status notes = (d : ℕ) → d < length plan → has_note notes d ≡ leaves_note (before d) (status d)

-- what a run answers, where the devices of a test had settled before
abbrev pub HasRun : {N : Type 0} → (ℕ → (ℕ → Bool) → Report → N → Type 0) → (ℕ → Bool) → List PlannedDevice → Ran N → Type 0
HasRun attests before plan ran = IsRunAfter attests before plan ran.report.items ran.notes.items
