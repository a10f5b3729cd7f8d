use Rattle.std.proofs.Common.{◌≡◌, ℕ, ◌<◌, not, get_or}
use Rattle.bus_plan.specs.Lines.{is_blank}
use Rattle.bus_plan.proofs.fields.first_place.Given as goal

-- the bytes so far are of the other kind
abbrev pub invariant-loop-place : goal.invariant-loop-place
invariant-loop-place l = (k : ℕ) → k < l.place → is_blank (get_or l.bytes k 0) ≡ not l.blank
