use Rattle.std.proofs.Common.{◌+◌, ◌<◌, arith}
use Rattle.std.proofs.lemmas.Grind.{common_steps}
use Rattle.dt_overlay.proofs.fixup.raising.raised.Goals as goal

pub returns : goal.returns
returns c = let less : c.args.number + c.args.shift < 4294967295 = omega arith in grind (arith, common_steps, less)
