use Rattle.std.proofs.Common.{◌≡◌, ◌++◌, ℕ, List, [], take, drop}
use Rattle.dtman_check.specs.Table.Private.Units.{places_at}
use Rattle.dtman_check.specs.Table.Units.{of_address, pairs_from}
use Rattle.dtman_check.proofs.table.units.find_pairs.Given as goal

-- those so far are kept by address; what is found so far and what is left to find is the whole
abbrev pub invariant-loop-unit : goal.invariant-loop-unit
invariant-loop-unit l = record {
  kept : (q : List ℕ) → places_at l.kept q ≡ of_address l.survey q (take l.unit-index l.units);
  found :
      l.findings.items ++ pairs_from l.check l.survey (take l.unit-index l.units) (drop l.unit-index l.units)
      ≡ l.fn.findings.items ++ pairs_from l.check l.survey [] l.units;
}
