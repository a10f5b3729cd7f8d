-- What is passed from here on is passed from the begin on too.
use Rattle.std.proofs.Common.{ℕ, List, length}
use Rattle.dt_text.specs.Include.Words.{Passes}
use Rattle.dt_text.proofs.include.words.next_inclusion.Given as goal

abbrev pub invariant-pieces : goal.invariant-pieces
invariant-pieces l = (t : List ℕ) → Passes l.left t → Passes l.s t

abbrev pub decreases-pieces : goal.decreases-pieces
decreases-pieces l = length l.left
