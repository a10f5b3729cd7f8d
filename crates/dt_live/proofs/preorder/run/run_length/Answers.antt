use Rattle.std.proofs.Common.{arith}
use Rattle.std.proofs.lemmas.Grind.{common_steps}
use Rattle.dt_live.proofs.preorder.run.run_length.Goals as goal

pub returns-then-node-property : goal.returns-then-node-property
returns-then-node-property c = grind (arith, common_steps)

pub loop-place-preserved : goal.loop-place-preserved
loop-place-preserved c = grind (arith, common_steps)
