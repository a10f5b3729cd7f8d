-- Which probes are due (Linux driver-api, deferred probing): a device is tried once, and again when it is ready.
use Rattle.std.specs.Prelude.{ℕ, Bool, not, ◌&&◌, ◌||◌, List, length}
use Rattle.std.specs.List.{list_all, range_with_len}
use Rattle.bus_plan.specs.Plan.{PlannedDevice, is_matched}
use Rattle.bus_core.specs.CoreState.{CoreState, is_in_flight, was_begun}
use Rattle.bus_core.specs.History.{bound_in, is_settled}
use Rattle.bus_core.specs.Ready.{is_ready}

-- neither in flight nor settled
abbrev pub is_idle : CoreState → ℕ → Bool
is_idle s d = not (is_in_flight s d || is_settled s.history d)

abbrev pub is_due : List PlannedDevice → CoreState → ℕ → Bool
is_due plan s d = is_matched plan d && (is_idle s d && (not (was_begun s d) || is_ready plan (bound_in s.history) d))

-- the numbers of a plan's devices
abbrev pub devices : List PlannedDevice → List ℕ
devices plan = range_with_len 0 (length plan)

-- no flight, nothing due
abbrev pub is_quiet : List PlannedDevice → CoreState → Bool
is_quiet plan s = list_all (λ d. not (is_in_flight s d || is_due plan s d)) (devices plan)
