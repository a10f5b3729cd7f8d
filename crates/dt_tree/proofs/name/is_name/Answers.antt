use Rattle.std.proofs.Common.{◌≤◌, length, arith}
use Rattle.std.proofs.lemmas.Grind.{common_steps}
use Rattle.dt_tree.proofs.name.is_name.Goals as goal

pub returns : goal.returns
returns c = let low : length c.args.bytes.now ≤ 255 = omega arith in grind (arith, common_steps)
