use Rattle.std.proofs.Common.{◌≡◌, ◌&&◌, ◌||◌, ℕ, take}
use Rattle.bus_plan.specs.Plan.{planned}
use Rattle.bus_plan.specs.Private.Places.{is_in}
use Rattle.bus_plan.specs.Private.Waiting.{is_unmatched}
use Rattle.bus_plan.proofs.late_driver.add_list.Given as goal

-- those of the devices so far that have no driver are found
abbrev pub invariant-loop-device : goal.invariant-loop-device
invariant-loop-device l = (d : ℕ) → is_in d l.found ≡ (is_in d l.fn.found || (is_in d (take l.device-index l.list) && is_unmatched (planned l.devices d)))
