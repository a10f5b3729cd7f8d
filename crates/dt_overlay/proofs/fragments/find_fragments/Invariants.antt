use Rattle.std.proofs.Common.{◌≡◌, ◌+◌, ℕ, length}
use Rattle.dt_overlay.proofs.FragmentRows.{AreSoFar}
use Rattle.dt_overlay.proofs.fragments.find_fragments.Given as goal

abbrev pub invariant-loop-row : goal.invariant-loop-row
invariant-loop-row l = record { so_far : (m : ℕ) → l.row + m ≡ length l.patched.live.nodes.items → AreSoFar l.base l.patched l.list.items l.row m }
