use Rattle.std.proofs.Common.{arith}
use Rattle.dt_build.proofs.MakingSizes.{size-made}
use Rattle.dt_build.proofs.sizes.nodes_size.Goals as goal

pub returns : goal.returns
returns c = omega (arith, size-made c.args.draft.now, c.values_size.ensures, c.saturating_add.ensures, c.saturating_mul-phandles.ensures, c.len.ensures)
