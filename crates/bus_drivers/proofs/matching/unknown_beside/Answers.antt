-- The index has the paths of the devices.
use Rattle.std.proofs.Common.{◌∙◌, ap}
use Rattle.std.specs.Option.{option_map}
use Rattle.bus_drivers.specs.Private.Matching.{device_paths}
use Rattle.bus_drivers.proofs.PlanningLemmas.{unknown-same}
use Rattle.bus_drivers.proofs.matching.unknown_beside.Goals as goal

pub returns : goal.returns
returns c =
    c.unknown_line.ensures
    ∙ ap (option_map (λ f. f.line)) (unknown-same c.add_devices.new.index (device_paths c.args.devices.now) c.args.fails.now c.in_ok-add_devices.ensures)
