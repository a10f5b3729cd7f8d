use Rattle.std.proofs.Common.{arith}
use Rattle.std.proofs.lemmas.Grind.{common_steps}
use Rattle.dt_blob.proofs.names.Names.note_properties.Goals as goal

pub loop-property-preserved : goal.loop-property-preserved
loop-property-preserved c = grind (arith, common_steps)
