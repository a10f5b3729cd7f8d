use Rattle.std.proofs.Common.{length, ap, arith}
use Rattle.dt_overlay.proofs.symbol_sizes.symbol_size.Goals as goal

pub text_size-requires-clause-known : goal.text_size-requires-clause-known
text_size-requires-clause-known c =
    let to = c.in-Some.ensures c.args.base.now c.requires.targets in
    omega (arith, to.known, ap length c.nodes.ensures)
