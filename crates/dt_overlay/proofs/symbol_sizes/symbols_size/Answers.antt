use Rattle.std.proofs.Common.{◌≡◌, ◌<◌, [], ◌∷◌, length, sym, ap, ap₂, ◌∙◌, arith}
use Rattle.dt_source.specs.TreeMeaning.Names.{symbols_name}
use Rattle.dt_source.specs.TreeMeaning.Paths.{same_path}
use Rattle.dt_live.specs.Rows.{path_of, property_at}
use Rattle.dt_live.specs.Flattened.{lists}
use Rattle.dt_overlay.proofs.SymbolLengths.{size-more, size-same}
use Rattle.dt_overlay.proofs.symbol_sizes.symbols_size.Goals as goal
use Rattle.dt_overlay.proofs.symbol_sizes.symbols_size.Goals.{then-is_symbols_node, else-is_symbols_node}

pub is_symbols_node-requires-clause-known : goal.is_symbols_node-requires-clause-known
is_symbols_node-requires-clause-known c =
    let k = c.loop-row.row in
    omega (arith, c.check.ensures.whole.sound.known k, ap (λ rs. (property_at rs k).node) c.properties.ensures, ap length c.nodes.ensures)

pub loop-row-preserved : goal.loop-row-preserved
loop-row-preserved c =
    let base = lists c.args.base.now in
    let s = c.args.patched.now in
    let k = c.loop-row.row in
    let inv = c.loop-row.invariant in
    let below : k < length s.live.properties.items = omega (arith, c.loop-row-test.true, ap length c.properties-row-end.ensures) in
    let same_row : same_path (symbols_name ∷ []) (path_of s.live.nodes.items (property_at s.live.properties.items k).node) ≡ c.is_symbols_node.result =
    sym (c.is_symbols_node.ensures ∙ ap₂ (λ ns rs. same_path (symbols_name ∷ []) (path_of ns (property_at rs k).node)) c.nodes.ensures c.properties.ensures) in
    elim c.if-is_symbols_node.branch [
      | then-is_symbols_node w ↦
          record {
            fits = omega (arith, w.size-is, w.saturating_add-size.ensures);
            size = size-more base s k below (same_row ∙ w.if-is_symbols_node.true) c.loop-row.size w.symbol_size.result c.if-is_symbols_node.size _ w.symbol_size.ensures
                (w.size-is ∙ w.saturating_add-size.ensures) inv.size;
          }
      | else-is_symbols_node w ↦
          record {
            fits = omega (arith, w.size-is, inv.fits);
            size = size-same base s k below (same_row ∙ w.if-is_symbols_node.false) c.if-is_symbols_node.size _ (rw w.size-is inv.size);
          }
    ]
