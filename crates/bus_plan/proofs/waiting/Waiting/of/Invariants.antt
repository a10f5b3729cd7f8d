use Rattle.std.proofs.Common.{◌≡◌, ℕ, List, take}
use Rattle.bus_plan.specs.Plan.{compatibles_of}
use Rattle.bus_plan.specs.PlanPaths.{is_among}
use Rattle.bus_plan.specs.Private.Places.{is_in}
use Rattle.bus_plan.specs.Private.Waiting.{listed_by}
use Rattle.bus_plan.proofs.waiting.Waiting.of.Given as goal

-- the devices so far are listed by their strings
abbrev pub invariant-loop-place : goal.invariant-loop-place
invariant-loop-place l = (d : ℕ) (s : List ℕ) → is_in d (listed_by l.waiting s) ≡ is_among s (compatibles_of (take l.place l.devices) d)
