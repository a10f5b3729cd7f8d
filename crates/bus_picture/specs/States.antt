-- What a device is drawn as: its status at the end of a run, or that it is set up before the bus begins.
use Rattle.std.specs.Prelude.{ℕ, Bool, true, false, ◌&&◌, if◌then◌else◌, List, map}
use Rattle.bus_plan.specs.Plan.{PlannedDevice, is_available}
use Rattle.bus_core.specs.Due.{devices}
use Rattle.bus_core.specs.Report.{end_status}
use Rattle.bus_core.specs.declared.status.Status.{Status}
use Rattle.bus_core.specs.declared.status.Status.TheVariants as status
use Rattle.bus_picture.specs.Why.Chain.{bound_by}
use Rattle.bus_links.specs.Links.{flag_at}
use Rattle.bus_links.specs.Linked.{LinkedData}
use Rattle.bus_picture.specs.declared.states.State.{State}
use Rattle.bus_picture.specs.declared.states.State.TheVariants as state

-- at the end of a run no device is probed or due
abbrev pub state_by : Status → State
state_by status.Bound = state.Bound
state_by status.Failed = state.Failed
state_by status.Probing = state.Waiting
state_by status.Due = state.Waiting
state_by status.Waiting = state.Waiting
state_by status.Unmatched = state.Unmatched
state_by status.Disabled = state.Disabled

abbrev pub state_of : List PlannedDevice → List Bool → Bool → ℕ → State
state_of plan bound early d =
    if is_available plan d && early then state.Early else state_by (end_status plan (bound_by bound) d)

abbrev pub linked_states : LinkedData → List Bool → List State
linked_states linked bound = map (λ d. state_of linked.plan bound (flag_at linked.early d) d) (devices linked.plan)

abbrev pub planned_states : List PlannedDevice → List Bool → List State
planned_states plan bound = map (state_of plan bound false) (devices plan)
