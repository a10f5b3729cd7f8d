use Rattle.std.proofs.Common.{drop, ◌++◌, ◌≡◌}
use Rattle.dt_questions.specs.Mentions.{mentions_from}
use Rattle.dt_questions.proofs.mentions.add_from.Given as goal

-- what is found so far and what the nodes that are left name is all
abbrev pub invariant-loop-user : goal.invariant-loop-user
invariant-loop-user l = l.mentions.items ++ mentions_from l.survey l.user (drop l.user l.nodes) ≡ l.fn.mentions.items ++ mentions_from l.survey 0 l.nodes
