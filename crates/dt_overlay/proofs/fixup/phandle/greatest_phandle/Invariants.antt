use Rattle.std.proofs.Common.{◌≡◌, max}
use Rattle.dt_source.specs.OverlayMeaning.Shifted.{greatest}
use Rattle.dt_overlay.proofs.FixupLemmas.Phandles.{phandles_from}
use Rattle.dt_overlay.proofs.fixup.phandle.greatest_phandle.Given as goal

abbrev pub invariant-loop-property : goal.invariant-loop-property
invariant-loop-property l = record { rest : greatest (phandles_from l.live 0) ≡ max l.greatest (greatest (phandles_from l.live l.property)) }
