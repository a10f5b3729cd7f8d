use Rattle.std.proofs.Common.{◌≡◌, ◌<◌, ◌≤◌, ◌^◌, ℕ, leb, arith}
use Rattle.std.proofs.lemmas.Grind.{common_steps}
use Rattle.dt_text.specs.Expression.Element.{fits_bits}
use Rattle.dt_text.proofs.expression.elements.fits.Goals as goal

large : (n : ℕ) → 256 ≤ n → n < 2 ^ 64 → leb 18446744073709551360 n ≡ fits_bits 8 n
large n h fit = grind (arith, common_steps)

pub returns-else-number-le255 : goal.returns-else-number-le255
returns-else-number-le255 c = rw c.in-Eight.is (large c.args.number c.if-number-le255.false c.ranges.number.fits)
