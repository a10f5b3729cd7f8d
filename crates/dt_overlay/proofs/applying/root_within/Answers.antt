use Rattle.std.proofs.Common.{◌≡◌, ◌<◌, ◌-◌, ◌^◌, ℕ, min, arith}
use Rattle.dt_overlay.proofs.applying.root_within.Goals as goal

over : (limit size total : ℕ) → limit < total → total ≡ min size (2 ^ 64 - 1) → limit < size
over limit size total more is = omega (arith, more, is)

passed : (limit size total : ℕ) → limit < total → total ≡ min size (2 ^ 64 - 1) → limit < 2 ^ 64 - 1
passed limit size total more is = omega (arith, more, is)

pub returns-then-total_size-limit : goal.returns-then-total_size-limit
returns-then-total_size-limit c =
    let longer = over c.args.limit _ c.total_size.result c.if-total_size-limit.true c.total_size.ensures in
    record { name = longer; map = longer; fits = passed c.args.limit _ c.total_size.result c.if-total_size-limit.true c.total_size.ensures }
