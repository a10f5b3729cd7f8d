use Rattle.std.proofs.Common.{◌≡◌, ◌++◌, drop}
use Rattle.dtman_check.specs.Table.Run.{missing}
use Rattle.dtman_check.proofs.table.run.Run.missing.Given as goal

-- those so far and those that are left are all
abbrev pub invariant-loop-prerequisite : goal.invariant-loop-prerequisite
invariant-loop-prerequisite l = l.gone.items ++ missing l.self.told l.check (drop l.prerequisite-index l.needed) ≡ missing l.self.told l.check l.needed
