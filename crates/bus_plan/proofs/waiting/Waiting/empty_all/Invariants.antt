use Rattle.std.proofs.Common.{◌≡◌, ℕ, List, [], take}
use Rattle.std.specs.Prelude.{if◌then◌else◌}
use Rattle.bus_plan.specs.PlanPaths.{is_among}
use Rattle.bus_plan.specs.Private.Waiting.{listed_by}
use Rattle.bus_plan.proofs.waiting.Waiting.empty_all.Given as goal

-- the lists of the strings so far are empty
abbrev pub invariant-loop-string : goal.invariant-loop-string
invariant-loop-string l = (s : List ℕ) → listed_by l.self s ≡ (if is_among s (take l.string-index l.strings) then [] else listed_by l.fn.self s)
