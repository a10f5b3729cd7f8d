use Rattle.std.proofs.Common.{◌≡◌, ◌&&◌, ℕ, take}
use Rattle.bus_plan.specs.Plan.{planned}
use Rattle.bus_plan.specs.Private.Places.{is_in}
use Rattle.bus_plan.specs.Private.Waiting.{is_unmatched, stands_at}
use Rattle.bus_plan.proofs.late_driver.unmatched_by.Given as goal

-- those in the lists so far that have no driver are found
abbrev pub invariant-loop-place : goal.invariant-loop-place
invariant-loop-place l = (d : ℕ) → is_in d l.found ≡ (stands_at l.waiting (take l.place-index l.place-items) d && is_unmatched (planned l.devices d))
