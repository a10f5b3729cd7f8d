use Rattle.std.proofs.Common.{◌≡◌, ℕ, take}
use Rattle.bus_plan.specs.Private.Waiting.{is_listed, stands_at}
use Rattle.bus_plan.proofs.waiting.Waiting.places_of.Given as goal

-- the lists at the places have the devices that are listed by the strings so far
abbrev pub invariant-loop-string : goal.invariant-loop-string
invariant-loop-string l = (d : ℕ) → stands_at l.self l.places d ≡ is_listed l.self (take l.string-index l.strings) d
