use Rattle.std.proofs.Common.{arith}
use Rattle.dt_build.proofs.DigitSteps.{digits-start}
use Rattle.dt_build.proofs.digits.put_digits.Goals as goal

pub loop-at-init : goal.loop-at-init
loop-at-init c = record { long = c.requires; within = omega arith; digits = digits-start c.args.number c.args.room.now c.requires }
