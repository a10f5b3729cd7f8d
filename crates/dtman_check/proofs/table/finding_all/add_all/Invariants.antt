use Rattle.std.proofs.Common.{◌≡◌, ◌++◌}
use Rattle.dtman_check.specs.Table.Found.{added_all}
use Rattle.dtman_check.proofs.table.finding_all.add_all.Given as goal

-- those so far and those that are left are all
abbrev pub invariant-loop-fault : goal.invariant-loop-fault
invariant-loop-fault l =
    l.findings.items ++ added_all l.check l.place l.fault-iterator.rest.items
    ≡ l.fn.findings.items ++ added_all l.check l.place l.fn.faults.items
