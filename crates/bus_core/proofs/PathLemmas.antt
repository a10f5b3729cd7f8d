-- Paths that the devices of a plan have.
use Rattle.std.proofs.Common.{◌≡◌, ◌∙◌, ap, sym, ℕ, ◌<◌, true, List, [], length, get_or, arith}
use Rattle.std.specs.Prelude.{Some}
use Rattle.std.specs.Str.{bytes_eq}
use Rattle.std.proofs.lemmas.List.{get_or-map, length-map}
use Rattle.std.proofs.lemmas.List.Quantifiers.{position-Some}
use Rattle.dt_tree.specs.Path.{is_path}
use Rattle.bus_plan.specs.Plan.{PlannedDevice, IsLawful, nothing, paths, device_at}
use Rattle.bus_plan.proofs.BoolLemmas.{and-left}
use Rattle.bus_plan.proofs.DistinctLemmas.{bytes_eq-same}

-- what a device has is a path
pub known-path : (plan : List PlannedDevice) (path : List ℕ) (d : ℕ) → IsLawful plan → Some d ≡ device_at plan path → (is_path path ≡ true) × (d < length plan)
known-path plan path d lawful e =
    let found = position-Some (bytes_eq path) (paths plan) d [] (sym e) in
    let long : length (paths plan) ≡ length plan = length-map plan (λ x. x.path) in
    let inside = found.0 in
    let within : d < length plan = omega (arith, inside, long) in
    let same : path ≡ (get_or plan d nothing).path = bytes_eq-same path (get_or (paths plan) d []) found.1 ∙ get_or-map (λ x. x.path) plan d nothing [] within in
    let lawful_path = and-left _ _ (lawful.devices d nothing within).path in
    (ap is_path same ∙ lawful_path, within)
