use Rattle.std.proofs.Common.{◌≡◌, [], ◌∷◌, ◌++◌, arith}
use Rattle.std.specs.Prelude.{codes}
use Rattle.std.proofs.lemmas.Grind.{common_steps}
use Rattle.bus_drivers.proofs.status.is_okay_value.Goals as goal

pub returns-then-eq : goal.returns-then-eq
returns-then-eq c = let is : c.as_slice.result.now ≡ codes "okay" ++ 0 ∷ [] = c.as_slice.ensures in grind (arith, common_steps, is)

pub returns-else-eq : goal.returns-else-eq
returns-else-eq c = let is : c.as_slice.result.now ≡ codes "okay" ++ 0 ∷ [] = c.as_slice.ensures in grind (arith, common_steps, is)
