use Rattle.std.proofs.Common.{◌≡◌, ◌+◌, ◌<◌, true, All, IfSome, Option, List, [], ◌∷◌, ◌++◌, length, map, drop, Vec, Global, sym, ap, ap₂, ◌∙◌, subst, arith}
use Rattle.dt_source.specs.TreeMeaning.Names.{symbols_name}
use Rattle.dt_source.specs.TreeMeaning.Paths.{same_path}
use Rattle.dt_live.specs.Rows.{path_of, property_at}
use Rattle.dt_live.specs.Flattened.{lists}
use Rattle.dt_tree.specs.Name.{is_name}
use Rattle.dt_overlay.specs.Fixup.PatchedOverlay.{patched_lists}
use Rattle.dt_overlay.specs.declared.symbols.Symbol.{Symbol}
use Rattle.dt_overlay.specs.Private.Symbols.{symbol_value, symbols_of, values_in}
use Rattle.dt_overlay.proofs.SymbolLengths.{symbols_from}
use Rattle.dt_overlay.proofs.SymbolsFound.{all-more, no-symbol, one-symbol, other-row}
use Rattle.dt_overlay.proofs.symbols.find_symbols.Goals as goal
use Rattle.dt_overlay.proofs.symbols.find_symbols.Goals.{then-is_symbols_node+in_ok-symbol+in-Some+in_ok-push, then-is_symbols_node+in_ok-symbol+in_default, else-is_symbols_node}

pub is_symbols_node-requires-clause-known : goal.is_symbols_node-requires-clause-known
is_symbols_node-requires-clause-known c =
    let k = c.loop-row.row in
    omega (arith, c.check.ensures.whole.sound.known k, ap (λ rs. (property_at rs k).node) c.properties.ensures, ap length c.nodes.ensures)

pub loop-row-preserved : goal.loop-row-preserved
loop-row-preserved c =
    let base = lists c.args.base.now in
    let s = c.args.patched.now in
    let k = c.loop-row.row in
    let inv = c.loop-row.invariant in
    let below : k < length s.live.properties.items = omega (arith, c.loop-row-test.true, ap length c.properties-row-end.ensures) in
    let same_row : same_path (symbols_name ∷ []) (path_of s.live.nodes.items (property_at s.live.properties.items k).node) ≡ c.is_symbols_node.result =
    sym (c.is_symbols_node.ensures ∙ ap₂ (λ ns rs. same_path (symbols_name ∷ []) (path_of ns (property_at rs k).node)) c.nodes.ensures c.properties.ensures) in
    elim c.if-is_symbols_node.branch [
      | then-is_symbols_node+in_ok-symbol+in-Some+in_ok-push w ↦
          let xs = ap (λ (v : Vec Symbol Global). v.items) w.symbols-is ∙ w.in_ok-push.ensures.items in
          record {
            named = subst (λ (ys : List Symbol). All (λ s. is_name s.name.now ≡ true) ys) (sym xs)
                (all-more c.loop-row.symbols.items w.in-Some.symbol inv.named (subst (λ (o : Option Symbol). IfSome o (λ s. is_name s.name.now ≡ true)) w.in-Some.is w.in_ok-symbol.ensures.named));
            made = ap (λ (ys : List Symbol). map symbol_value ys ++ symbols_from base s (k + 1) (drop (k + 1) s.live.properties.items)) xs
                ∙ one-symbol base s k below c.loop-row.symbols.items w.in-Some.symbol (symbols_of base (patched_lists s)) (same_row ∙ w.if-is_symbols_node.true) (sym (ap values_in w.in-Some.is) ∙ w.in_ok-symbol.ensures.value) inv.made;
          }
      | then-is_symbols_node+in_ok-symbol+in_default w ↦
          let xs = ap (λ (v : Vec Symbol Global). v.items) w.symbols-is in
          record {
            named = subst (λ (ys : List Symbol). All (λ s. is_name s.name.now ≡ true) ys) (sym xs) inv.named;
            made = ap (λ (ys : List Symbol). map symbol_value ys ++ symbols_from base s (k + 1) (drop (k + 1) s.live.properties.items)) xs
                ∙ no-symbol base s k below c.loop-row.symbols.items (symbols_of base (patched_lists s)) (same_row ∙ w.if-is_symbols_node.true) (sym (ap values_in w.in_default.is) ∙ w.in_ok-symbol.ensures.value) inv.made;
          }
      | else-is_symbols_node w ↦
          let xs = ap (λ (v : Vec Symbol Global). v.items) w.symbols-is in
          record {
            named = subst (λ (ys : List Symbol). All (λ s. is_name s.name.now ≡ true) ys) (sym xs) inv.named;
            made = ap (λ (ys : List Symbol). map symbol_value ys ++ symbols_from base s (k + 1) (drop (k + 1) s.live.properties.items)) xs
                ∙ other-row base s k below c.loop-row.symbols.items (symbols_of base (patched_lists s)) (same_row ∙ w.if-is_symbols_node.false) inv.made;
          }
    ]
