use Rattle.std.proofs.Common.{drop, ◌++◌, ◌≡◌}
use Rattle.dt_questions.specs.Find.{found_from}
use Rattle.dt_questions.proofs.find.add_all.Given as goal

-- the text so far and the lines of the nodes that are left are all
abbrev pub invariant-loop-place : goal.invariant-loop-place
invariant-loop-place l = l.text.items ++ found_from l.survey l.question l.place (drop l.place l.nodes) ≡ l.fn.text.items ++ found_from l.survey l.question 0 l.nodes
