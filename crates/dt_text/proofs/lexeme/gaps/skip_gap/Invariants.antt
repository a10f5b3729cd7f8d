use Rattle.std.proofs.Common.{ℕ, List, length, ◌≤◌}
use Rattle.dt_text.specs.Lexeme.Gaps.{Gap, IsGap}
use Rattle.dt_text.proofs.lexeme.gaps.skip_gap.Given as goal

abbrev pub invariant-gaps : goal.invariant-gaps
invariant-gaps l = record { shorter : length l.left ≤ length l.s; so_far : (t : List ℕ) → Gap l.language l.left t → Gap l.language l.s t; to : (t : List ℕ) → IsGap l.language l.left t → IsGap l.language l.s t; of : (t : List ℕ) → IsGap l.language l.s t → IsGap l.language l.left t }

abbrev pub decreases-gaps : goal.decreases-gaps
decreases-gaps l = length l.left
