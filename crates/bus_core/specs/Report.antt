-- The status of a device and the text of a report, one line a device in the plan's order.
use Rattle.std.specs.Prelude.{◌≡◌, ℕ, Bool, not, if◌then◌else◌, List, [], ◌∷◌, ◌++◌, Option, Some, None, unwrap_or, codes, find, flat_map}
use Rattle.bus_plan.specs.Plan.{PlannedDevice, path_of, is_available, driver_of, is_matched, suppliers_of}
use Rattle.bus_core.specs.declared.status.Status.{Status}
use Rattle.bus_core.specs.declared.status.Status.TheVariants as status
use Rattle.bus_core.specs.CoreState.{CoreState, is_in_flight}
use Rattle.bus_core.specs.Due.{is_due, is_quiet, devices}
use Rattle.bus_core.specs.History.{bound_in, is_settled}
use Rattle.bus_core.specs.Least.{IsLeast}
use Rattle.bus_core.specs.Ready.{is_ready}

abbrev pub status_of : List PlannedDevice → CoreState → ℕ → Status
status_of plan s d =
    if bound_in s.history d then status.Bound
    else (if is_settled s.history d then status.Failed
    else (if is_in_flight s d then status.Probing
    else (if not (is_available plan d) then status.Disabled
    else (if not (is_matched plan d) then status.Unmatched
    else (if is_due plan s d then status.Due
    else status.Waiting)))))

abbrev pub driver_text : List PlannedDevice → ℕ → List ℕ
driver_text plan d = unwrap_or (driver_of plan d) []

-- the first supplier in its list that isn't bound
abbrev pub missing_supplier : List PlannedDevice → (ℕ → Bool) → ℕ → Option ℕ
missing_supplier plan bound d = find (λ s. not (bound s)) (suppliers_of plan d)

abbrev pub path_text : List PlannedDevice → Option ℕ → List ℕ
path_text plan None = []
path_text plan (Some d) = path_of plan d

-- what a line says behind the path, with the supplier that a waiting device lacks
abbrev pub status_text : List PlannedDevice → Option ℕ → ℕ → Status → List ℕ
status_text plan missing d status.Bound = codes " bound " ++ driver_text plan d
status_text plan missing d status.Failed = codes " failed " ++ driver_text plan d
status_text plan missing d status.Probing = codes " probing"
status_text plan missing d status.Due = codes " due"
status_text plan missing d status.Waiting = codes " waiting " ++ path_text plan missing
status_text plan missing d status.Unmatched = codes " unmatched"
status_text plan missing d status.Disabled = codes " disabled"

abbrev pub line_of : List PlannedDevice → Option ℕ → Status → ℕ → List ℕ
line_of plan missing said d = path_of plan d ++ (status_text plan missing d said ++ 10 ∷ [])

-- a device's line in a core's report
abbrev pub core_line : List PlannedDevice → CoreState → ℕ → List ℕ
core_line plan s d = line_of plan (missing_supplier plan (bound_in s.history) d) (status_of plan s d) d

abbrev pub core_lines : List PlannedDevice → CoreState → List ℕ
core_lines plan s = flat_map (core_line plan s) (devices plan)

abbrev pub report_text : List PlannedDevice → CoreState → List ℕ
report_text plan s =
    core_lines plan s
    ++ (if is_quiet plan s then codes "quiet\n" else codes "busy\n")

-- The report that a run ends with: the devices of a set are bound, those ready for it and not in it have failed, all
-- others that have a driver wait.
abbrev pub end_status : List PlannedDevice → (ℕ → Bool) → ℕ → Status
end_status plan bound d =
    if not (is_available plan d) then status.Disabled
    else (if not (is_matched plan d) then status.Unmatched
    else (if bound d then status.Bound
    else (if is_ready plan bound d then status.Failed
    else status.Waiting)))

abbrev pub end_line : List PlannedDevice → (ℕ → Bool) → ℕ → List ℕ
end_line plan bound d = line_of plan (missing_supplier plan bound d) (end_status plan bound d) d

abbrev pub end_lines : List PlannedDevice → (ℕ → Bool) → List ℕ
end_lines plan bound = flat_map (end_line plan bound) (devices plan)

abbrev pub end_text : List PlannedDevice → (ℕ → Bool) → List ℕ
end_text plan bound = end_lines plan bound ++ codes "quiet\n"

pub record IsEndReport (plan : List PlannedDevice) (text : List ℕ) : Type 0 where
  pub bound : ℕ → Bool
  pub least : IsLeast plan bound
  pub text_is : text ≡ end_text plan bound
