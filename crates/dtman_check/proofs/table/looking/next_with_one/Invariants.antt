use Rattle.dtman_check.specs.Table.Private.Passed.{Passes}
use Rattle.dtman_check.proofs.table.looking.next_with_one.Given as goal

-- the nodes that were passed add nothing
abbrev pub invariant-loop-place : goal.invariant-loop-place
invariant-loop-place l = Passes l.nodes l.classes l.from l.place
