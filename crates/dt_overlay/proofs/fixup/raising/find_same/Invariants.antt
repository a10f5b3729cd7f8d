use Rattle.std.proofs.Common.{◌≡◌, ◌&&◌}
use Rattle.dt_source.specs.OverlayMeaning.Shifted.{differ}
use Rattle.dt_overlay.specs.Fixup.Private.Rows.{is_met}
use Rattle.dt_overlay.proofs.FixupLemmas.Phandles.{are_new, phandles_from}
use Rattle.dt_overlay.proofs.fixup.raising.find_same.Given as goal

abbrev pub invariant-loop-property : goal.invariant-loop-property
invariant-loop-property l = record { rest : (differ (phandles_from l.live l.property) && are_new (is_met l.met) (phandles_from l.live l.property)) ≡ differ (phandles_from l.live 0) }
