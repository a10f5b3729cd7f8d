use Rattle.std.proofs.Common.{drop, ◌++◌, ◌≡◌}
use Rattle.dt_questions.specs.Regions.{regions_from}
use Rattle.dt_questions.proofs.regions.add_from.Given as goal

-- what is found so far and the regions of the nodes that are left are all
abbrev pub invariant-loop-node : goal.invariant-loop-node
invariant-loop-node l = l.found.items ++ regions_from l.survey l.node (drop l.node l.nodes) ≡ l.fn.found.items ++ regions_from l.survey 0 l.nodes
