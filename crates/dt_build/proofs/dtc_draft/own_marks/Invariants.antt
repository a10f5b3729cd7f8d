use Rattle.std.proofs.Common.{◌≡◌, length, take}
use Rattle.dt_build.specs.Resolve.NodePhandles.{AreMarks}
use Rattle.dt_build.specs.Private.DtcDrafts.{has_own_row}
use Rattle.dt_build.proofs.dtc_draft.own_marks.Given as goal

abbrev pub invariant-loop-property : goal.invariant-loop-property
invariant-loop-property l = record { count : length l.marks.items ≡ l.count; marks : AreMarks (has_own_row (take l.property-index l.properties)) l.marks.items }
