use Rattle.std.proofs.Common.{◌≡◌, ◌≤◌, ◌<◌, length, ℕ, ◌+◌, ◌*◌}
use Rattle.std.specs.Prelude.{map}
use Rattle.dt_source.specs.Tree.{view}
use Rattle.dt_source.specs.Reading.Bodies.{body_at}
use Rattle.dt_source.specs.Reading.Loops.{folded}
use Rattle.dt_source.proofs.StatementLoops.{snoc, statements_left}
use Rattle.dt_source.proofs.body.+body.Given as goal

abbrev pub decreases-body : goal.decreases-body
decreases-body l = l.depth * 8 + 5

abbrev pub decreases-statement : goal.decreases-statement
decreases-statement l = l.depth * 8 + 4

abbrev pub decreases-begun : goal.decreases-begun
decreases-begun l = l.depth * 8 + 3

abbrev pub decreases-named : goal.decreases-named
decreases-named l = l.depth * 8 + 2

abbrev pub decreases-body_deeper : goal.decreases-body_deeper
decreases-body_deeper l = l.depth * 8 + 1

abbrev pub invariant-body-statements : goal.invariant-body-statements
invariant-body-statements l = record {
  shorter : length l.left ≤ length l.ts;
  so_far : (n : ℕ) × (length l.left < n) × (folded snoc (map view l.statements.items) l.first (statements_left l.language l.text l.depth n l.nodes l.left) ≡ body_at l.language l.text l.depth l.ts);
}

abbrev pub decreases-body-statements : goal.decreases-body-statements
decreases-body-statements l = length l.left
