-- What a run answers: the end report of its plan, and a note of each device that the report has bound or failed and that
-- hadn't settled before the run. There is no other end report of the plan, so each interleaving gives these bytes.
use Rattle.std.specs.Prelude.{◌≡◌, ◌<◌, ℕ, Bool, true, false, List, Option, Some, None, length, slice_index_or}
use Rattle.std.specs.List.{list_all}
use Rattle.bus_plan.specs.Plan.{PlannedDevice, suppliers_of}
use Rattle.bus_core.specs.CoreState.{CoreValue}
use Rattle.bus_core.specs.declared.event.Report.{Report}
use Rattle.bus_core.specs.declared.event.Report.TheVariants.{Settled}
use Rattle.bus_core.specs.History.{is_settled}
use Rattle.bus_core.specs.Report.{end_status, IsEndReport}
use Rattle.bus_manager.specs.Notes.{leaves_note, has_note}

-- What a note shows of its device: the probe that left it settled, and was told of a set of devices as bound that has all
-- suppliers of the device and lies within the devices that are bound at the end.
pub record IsProbed {N : Type 0} (attests : (ℕ → Bool) → Report → N → Type 0) (plan : List PlannedDevice) (bound : ℕ → Bool) (d : ℕ) (note : N) : Type 0 where
  pub seen : ℕ → Bool
  pub suppliers : list_all seen (suppliers_of plan d) ≡ true
  pub within : (s : ℕ) → seen s ≡ true → bound s ≡ true
  pub attested : attests seen Settled note

-- the devices that had settled before are those of a test
pub record IsRunAfter {N : Type 0} (attests : ℕ → (ℕ → Bool) → Report → N → Type 0) (before : ℕ → Bool) (plan : List PlannedDevice) (report : List ℕ) (notes : List (Option N)) : Type 0 where
  pub ends : IsEndReport plan report
  pub one : (text : List ℕ) → IsEndReport plan text → text ≡ report
  pub places : length notes ≡ length plan
  pub noted : (d : ℕ) → d < length plan → has_note notes d ≡ leaves_note (before d) (end_status plan ends.bound d)
  pub attested : (d : ℕ) (note : N) → slice_index_or notes d None ≡ Some note → IsProbed (attests d) plan ends.bound d note

-- a run of a plan begins with nothing settled
abbrev pub IsRun : {N : Type 0} → (ℕ → (ℕ → Bool) → Report → N → Type 0) → List PlannedDevice → List ℕ → List (Option N) → Type 0
IsRun attests plan report notes = IsRunAfter attests (λ d. false) plan report notes

-- a run that goes on from a core, under the drivers that it has so far
abbrev pub IsRunOf : {N : Type 0} → (ℕ → (ℕ → Bool) → Report → N → Type 0) → CoreValue → List ℕ → List (Option N) → Type 0
IsRunOf attests core report notes = IsRunAfter attests (is_settled core.state.history) core.plan report notes
