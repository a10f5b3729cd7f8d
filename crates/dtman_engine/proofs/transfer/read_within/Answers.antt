use Rattle.std.proofs.Common.{◌≤◌, length, arith}
use Rattle.dtman_engine.proofs.transfer.read_within.Goals as goal

pub returns-clause-taken : goal.returns-clause-taken
returns-clause-taken g c =
    let within : length c.in_ok-bytes.bytes.items ≤ c.args.limit = omega (arith, c.if-len-limit.false) in
    (within, c.in_ok-bytes.ensures.taken, c.in_ok-bytes.ensures.end within)
