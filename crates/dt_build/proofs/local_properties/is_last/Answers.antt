use Rattle.std.proofs.Common.{◌-◌, ◌+◌, ◌≡◌, length, arith}
use Rattle.dt_build.proofs.LocalPuts.{ends-read}
use Rattle.dt_build.proofs.local_properties.is_last.Goals as goal

pub returns-in-Some : goal.returns-in-Some
returns-in-Some c =
    let xs = c.args.locals.now in
    let long : length xs - 1 + 1 ≡ length xs = omega (arith, c.in-Some.ensures.item.3.0) in
    ends-read c.args.property xs (length xs - 1) c.in-Some.last.now long c.in-Some.ensures.item.1
