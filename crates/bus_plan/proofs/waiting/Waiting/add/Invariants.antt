use Rattle.std.proofs.Common.{◌≡◌, ◌&&◌, ◌||◌, ℕ, List, take}
use Rattle.std.specs.Prelude.{◌==◌}
use Rattle.bus_plan.specs.PlanPaths.{is_among}
use Rattle.bus_plan.specs.Private.Places.{is_in}
use Rattle.bus_plan.specs.Private.Waiting.{listed_by}
use Rattle.bus_plan.proofs.waiting.Waiting.add.Given as goal

-- the device is listed by the strings so far
abbrev pub invariant-loop-string : goal.invariant-loop-string
invariant-loop-string l =
    (d : ℕ) (s : List ℕ) → is_in d (listed_by l.self s) ≡ (is_in d (listed_by l.fn.self s) || (is_among s (take l.string-index l.strings) && (d == l.device)))
