use Rattle.std.proofs.Common.{◌≡◌, drop}
use Rattle.bus_drivers.specs.Private.Matching.{unknown_among}
use Rattle.bus_drivers.proofs.matching.unknown_line.Given as goal

-- the first of the lines that are left is the first of all
abbrev pub invariant-loop-fail : goal.invariant-loop-fail
invariant-loop-fail l = unknown_among l.paths (drop l.fail-index l.fails) ≡ unknown_among l.paths l.fails
