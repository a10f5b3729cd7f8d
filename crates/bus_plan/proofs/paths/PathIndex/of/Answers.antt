-- A device's path is none of those before it.
use Rattle.std.proofs.Common.{◌≡◌, ◌∙◌, ap, sym, List, ℕ, [], ◌∷◌, ◌++◌, length, ◌<◌, get_or, take, arith}
use Rattle.std.specs.List.{list_any, take-map}
use Rattle.std.specs.Str.{bytes_eq}
use Rattle.std.proofs.lemmas.List.{get_or-map, length-map, map-append, take_more}
use Rattle.bus_plan.specs.Plan.{PlannedDevice, paths}
use Rattle.bus_plan.specs.PlanPaths.{is_among}
use Rattle.bus_plan.proofs.DistinctLemmas.{before-absent}
use Rattle.bus_plan.proofs.paths.PathIndex.of.Goals as goal

pub push-requires : goal.push-requires
push-requires c =
    let items : List PlannedDevice = c.args.devices.now in
    let at : ℕ = c.loop-device.device-index in
    let within : at < length items = c.loop-device-test.true in
    let long : length (paths items) ≡ length items = length-map items (λ d. d.path) in
    let within_paths : at < length (paths items) = omega arith in
    let path : c.as_bytes-path.result.now ≡ get_or (paths items) at [] =
    c.as_bytes-path.ensures.value ∙ c.path.ensures ∙ ap (λ d. d.path) c.device-item.is
    ∙ sym (get_or-map (λ d. d.path) items at c.device-item.result [] within) in
    let before : c.loop-device.index ≡ take at (paths items) = c.loop-device.invariant ∙ sym (take-map (λ d. d.path) at items) in
    ap (λ p. list_any (bytes_eq p) c.loop-device.index) path ∙ ap (is_among (get_or (paths items) at [])) before
    ∙ before-absent (paths items) at [] c.requires within_paths

pub loop-device-preserved : goal.loop-device-preserved
loop-device-preserved c =
    let items : List PlannedDevice = c.args.devices.now in
    let at : ℕ = c.loop-device.device-index in
    let path = c.as_bytes-path.ensures.value ∙ c.path.ensures in
    c.in_ok-push.ensures.ok ∙ ap (λ ps. ps ++ c.as_bytes-path.result.now ∷ []) c.loop-device.invariant
    ∙ ap (λ p. paths (take at items) ++ p ∷ []) path ∙ ap (λ d. paths (take at items) ++ d.path ∷ []) c.device-item.is
    ∙ sym (ap paths (take_more items at c.device-item.result c.loop-device-test.true) ∙ map-append (λ d. d.path) (take at items) (get_or items at c.device-item.result ∷ []))
