use Rattle.std.proofs.Common.{◌≡◌, drop}
use Rattle.dt_source.proofs.FillingSteps.{holds}
use Rattle.dt_source.proofs.filling.holds_file.Given as goal

abbrev pub invariant-loop-part : goal.invariant-loop-part
invariant-loop-part l = holds (drop l.part-index l.value) ≡ holds l.value
