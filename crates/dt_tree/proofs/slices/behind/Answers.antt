use Rattle.std.proofs.Common.{arith}
use Rattle.std.proofs.lemmas.Grind.{common_steps}
use Rattle.dt_tree.proofs.slices.behind.Goals as goal

pub returns-then-count-items : goal.returns-then-count-items
returns-then-count-items c = grind (arith, common_steps)
