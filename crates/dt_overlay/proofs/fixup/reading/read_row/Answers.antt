use Rattle.std.proofs.Common.{◌≡◌, length, ap, arith}
use Rattle.dt_live.specs.Rows.{property_at}
use Rattle.dt_overlay.proofs.fixup.reading.read_row.Goals as goal

pub is_root_child-requires-clause-known : goal.is_root_child-requires-clause-known
is_root_child-requires-clause-known c =
    let d = c.args.live.now in
    let ps = d.properties.items in
    let k = c.args.row in
    let node : (property_at c.properties.result.now k).node ≡ (property_at ps k).node = ap (λ xs. (property_at xs k).node) c.properties.ensures in
    let known = c.requires.whole.sound.known k in
    let same : length c.nodes.result.now ≡ length d.nodes.items = ap length c.nodes.ensures in
    omega (arith, node, known, same)
