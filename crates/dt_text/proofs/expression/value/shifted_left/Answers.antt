use Rattle.std.proofs.Common.{◌≡◌, false, ltb, refl}
use Rattle.std.proofs.lemmas.Bool.{le-ltb}
use Rattle.dt_text.proofs.expression.value.shifted_left.Goals as goal

pub returns-else-y-lt64 : goal.returns-else-y-lt64
returns-else-y-lt64 c = let e : ltb c.args.y 64 ≡ false = le-ltb _ _ c.if-y-lt64.false in rw e refl
