use Rattle.std.proofs.Common.{take}
use Rattle.dt_check.specs.Private.Marks.{AreMarked}
use Rattle.dt_check.proofs.marks.Marks.of.Given as goal

-- the names of the properties so far are marked
abbrev pub invariant-loop-property : goal.invariant-loop-property
invariant-loop-property l = AreMarked (take l.property-index l.properties) l.classes
