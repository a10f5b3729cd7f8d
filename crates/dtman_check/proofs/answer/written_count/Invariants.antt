use Rattle.std.proofs.Common.{◌≡◌, ◌+◌, drop}
use Rattle.dtman_check.specs.Answers.{written_count}
use Rattle.dtman_check.proofs.answer.written_count.Given as goal

-- those so far and those that are left
abbrev pub invariant-loop-place : goal.invariant-loop-place
invariant-loop-place l = l.place + written_count l.places l.place (drop l.place l.nodes) ≡ written_count l.places 0 l.nodes
