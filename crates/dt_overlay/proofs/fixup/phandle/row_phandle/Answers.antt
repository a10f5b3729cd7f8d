use Rattle.std.proofs.Common.{length, slice_index_or, ap, arith}
use Rattle.dt_live.specs.Rows.{no_property}
use Rattle.dt_overlay.proofs.fixup.phandle.row_phandle.Goals as goal

pub is_reserved-requires-clause-known : goal.is_reserved-requires-clause-known
is_reserved-requires-clause-known c =
    omega (arith, c.requires.whole.sound.known c.args.property, ap (λ rows. (slice_index_or rows c.args.property no_property).node) c.properties.ensures, ap length c.nodes.ensures)
