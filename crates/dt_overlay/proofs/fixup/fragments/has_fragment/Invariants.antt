use Rattle.std.proofs.Common.{◌≡◌, ◌+◌, ℕ, length}
use Rattle.dt_live.specs.Flattened.{lists}
use Rattle.dt_source.specs.OverlayMeaning.Shifted.{fragments}
use Rattle.dt_overlay.specs.Fixup.Private.Fragments.{are_some}
use Rattle.dt_overlay.proofs.FixupLemmas.FragmentRows.{fragments_from}
use Rattle.dt_overlay.proofs.fixup.fragments.has_fragment.Given as goal

abbrev pub invariant-loop-row : goal.invariant-loop-row
invariant-loop-row l = record { rest : (m : ℕ) → l.row + m ≡ length l.live.nodes.items → are_some (fragments_from l.live l.row m) ≡ are_some (fragments (lists l.live)) }
