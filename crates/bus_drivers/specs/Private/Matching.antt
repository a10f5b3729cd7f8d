-- An index from strings to the first drivers that list them.
use Rattle.std.specs.Prelude.{◌≡◌, ℕ, not, if◌then◌else◌, List, map, Option, Some, None}
use Rattle.std.specs.Borrow.{Bor}
use Rattle.std.specs.Map.{lookup}
use Rattle.std.specs.Option.{option_copied}
use Rattle.std.specs.List.{find}
use Rattle.std.specs.Str.{bytes_eq}
use Rattle.dt_tree.specs.Phandle.{or_else}
use Rattle.bus_plan.specs.PlanPaths.{is_among}
use Rattle.bus_drivers.specs.Driver.{DriverData, FailData, DriverSetData}
use Rattle.bus_drivers.specs.Nodes.{TreeDevice}
use Rattle.bus_drivers.specs.TreePlan.{driver_naming, fail_paths}

-- what entries have at a string
abbrev pub driver_found : List (Bor (List ℕ) × Bor (List ℕ)) → List ℕ → Option (List ℕ)
driver_found entries string = option_copied (lookup (λ key. bytes_eq string key.now) entries)

-- what was found, or else one more driver that lists these strings
abbrev pub found_with : Option (List ℕ) → List ℕ → List (List ℕ) → List ℕ → Option (List ℕ)
found_with before name strings string = or_else before (if is_among string strings then Some name else None)

-- each string has the driver that it had, or else this one where it lists the string, or else one of these that does
abbrev pub AreFoundWith : List ℕ → List (List ℕ) → List (Bor (List ℕ) × Bor (List ℕ)) → List (Bor (List ℕ) × Bor (List ℕ)) → Type 0
AreFoundWith name strings old new = (q : List ℕ) → driver_found new q ≡ found_with (driver_found old q) name strings q

abbrev pub AreFoundAmong : List DriverData → List (Bor (List ℕ) × Bor (List ℕ)) → List (Bor (List ℕ) × Bor (List ℕ)) → Type 0
AreFoundAmong drivers old new = (q : List ℕ) → driver_found new q ≡ or_else (driver_found old q) (driver_naming drivers q)

-- what is true of a matcher: each string has the first driver that lists it, and the paths of the `fail` lines are known
pub record IsMatcher (set : DriverSetData) (entries : List (Bor (List ℕ) × Bor (List ℕ))) (fails : List (List ℕ)) : Type 0 where
  pub drivers : (string : List ℕ) → driver_found entries string ≡ driver_naming set.drivers string
  pub fails_known : (path : List ℕ) → is_among path fails ≡ is_among path (fail_paths set.fails)

-- ---- paths
abbrev pub device_paths : List TreeDevice → List (List ℕ)
device_paths devices = map (λ d. d.path) devices

-- the first `fail` line whose path is none of these
abbrev pub unknown_among : List (List ℕ) → List FailData → Option FailData
unknown_among paths fails = find (λ f. not (is_among f.path paths)) fails
