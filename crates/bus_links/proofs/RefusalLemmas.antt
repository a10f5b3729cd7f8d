-- Refusals of a tree, and what is made of one.
use Rattle.std.proofs.Common.{◌≡◌, ◌∙◌, refl, ap, sym, ◌<◌, ◌≤◌, Bool, true, false, List, length, Some, arith}
use Rattle.std.specs.Prelude.{nat_le}
use Rattle.std.specs.Option.{option_map}
use Rattle.std.proofs.lemmas.Bool.{le-leb}
use Rattle.std.proofs.lemmas.Bool.Decides.{nat_tests}
use Rattle.dt_tree.specs.NodeData.{NodeData}
use Rattle.bus_plan.specs.declared.error.PlanError.TheVariants.{UnknownPath, TooManyDevices}
use Rattle.bus_plan.specs.Limits.{most_devices}
use Rattle.bus_drivers.specs.Driver.{DriverSetData}
use Rattle.bus_drivers.specs.Nodes.{TreeDevice, device_nodes, tree_devices}
use Rattle.bus_drivers.specs.TreePlan.{unknown_fail}
use Rattle.bus_links.specs.LinkPlan.{tree_refusal}

pub refused-many : (root : NodeData) (set : DriverSetData) → most_devices < length (device_nodes root) → tree_refusal root set ≡ Some TooManyDevices
refused-many root set many = by (nat_le (length (device_nodes root)) most_devices) refl where
  by : (t : Bool) → nat_le (length (device_nodes root)) most_devices ≡ t → tree_refusal root set ≡ Some TooManyDevices
  by false is = rw is refl
  by true is = absurd (let low : length (device_nodes root) ≤ most_devices = grind (arith, nat_tests) in omega arith)

pub refusal-few : (root : NodeData) (set : DriverSetData) → length (device_nodes root) ≤ most_devices → tree_refusal root set ≡ option_map (λ f. UnknownPath f.line) (unknown_fail (tree_devices root) set.fails)
refusal-few root set few = rw (le-leb (length (device_nodes root)) most_devices few) refl

-- the `fail` lines are tested by a matcher of the set and the devices of an index of the tree
pub refusal-tested : (root index : NodeData) (set matcher : DriverSetData) (devices : List TreeDevice) → index ≡ root → length (device_nodes root) ≤ most_devices → matcher ≡ set → devices ≡ tree_devices index
    → tree_refusal root set ≡ option_map (λ f. UnknownPath f.line) (unknown_fail devices matcher.fails)
refusal-tested root index set matcher devices is few same all =
    refusal-few root set few
    ∙ ap (λ (s : DriverSetData). option_map (λ f. UnknownPath f.line) (unknown_fail (tree_devices root) s.fails)) (sym same)
    ∙ ap (λ (r : NodeData). option_map (λ f. UnknownPath f.line) (unknown_fail (tree_devices r) matcher.fails)) (sym is)
    ∙ ap (λ (ds : List TreeDevice). option_map (λ f. UnknownPath f.line) (unknown_fail ds matcher.fails)) (sym all)
