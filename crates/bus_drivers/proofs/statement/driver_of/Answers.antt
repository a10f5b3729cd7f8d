use Rattle.std.proofs.Common.{◌≡◌, ◌==◌, ◌∙◌, sym, false, vec_len, arith}
use Rattle.std.proofs.lemmas.Grind.{common_steps}
use Rattle.bus_drivers.proofs.statement.driver_of.Goals as goal

pub returns : goal.returns
returns c =
    let some : (vec_len c.in_ok-compatibles.compatibles == 0) ≡ false = sym c.is_empty.ensures ∙ c.if-is_empty.false in
    grind (arith, common_steps, some)
