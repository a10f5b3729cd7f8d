use Rattle.std.proofs.Common.{map, drop, length}
use Rattle.dt_tree.specs.Steps.{each}
use Rattle.dt_source.specs.OverlayMeaning.Shifted.{fixup_in}
use Rattle.dt_source.specs.OverlayMeaning.Texts.{parts}
use Rattle.dt_overlay.specs.Fixup.Private.Fixing.{fixup_named}
use Rattle.dt_overlay.proofs.FixupLemmas.ReadingLaws.{IsSoFar}
use Rattle.dt_overlay.proofs.fixup.reading.read_texts.Given as goal

abbrev pub invariant-loop-text : goal.invariant-loop-text
invariant-loop-text l =
    IsSoFar (each (fixup_in l.symbol) (parts 0 l.texts)) (each (fixup_in l.symbol) (drop (length l.yielded) (parts 0 l.texts))) (map fixup_named l.fn.found.items) (map fixup_named l.found.items)
