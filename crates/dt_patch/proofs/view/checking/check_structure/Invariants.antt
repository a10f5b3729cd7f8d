use Rattle.std.proofs.Common.{length}
use Rattle.dt_blob.specs.Steps.Reading.{tokens_at}
use Rattle.dt_patch.specs.declared.view.stages.Stage.TheVariants as stage
use Rattle.dt_patch.specs.View.Private.Stages.{accepts}
use Rattle.dt_patch.proofs.ViewLemmas.Goings.{Goes}
use Rattle.dt_patch.proofs.view.checking.check_structure.Given as goal

abbrev pub invariant-tokens : goal.invariant-tokens
invariant-tokens l = Goes l.is_sized l.strings l.rest l.stage (accepts stage.Before (tokens_at l.is_sized l.strings l.structure))

abbrev pub decreases-tokens : goal.decreases-tokens
decreases-tokens l = length l.rest
