use Rattle.std.proofs.Common.{map}
use Rattle.std.specs.List.{filter}
use Rattle.dt_live.specs.Flattened.{lists}
use Rattle.dt_source.specs.OverlayMeaning.Shifted.{is_fixups}
use Rattle.dt_overlay.specs.Fixup.Private.Fixing.{gathered, fixup_named}
use Rattle.dt_overlay.proofs.FixupLemmas.LocalSteps.{definitions}
use Rattle.dt_overlay.proofs.FixupLemmas.ReadingLaws.{IsSoFar}
use Rattle.dt_overlay.proofs.fixup.reading.read_fixups.Given as goal

abbrev pub invariant-loop-row : goal.invariant-loop-row
invariant-loop-row l =
    IsSoFar (gathered (filter is_fixups (lists l.live).properties)) (gathered (filter is_fixups (definitions l.live l.row))) (map fixup_named l.fn.found.items) (map fixup_named l.found.items)
