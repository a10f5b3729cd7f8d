use Rattle.std.proofs.Common.{map, refl, sym, ap, ◌∙◌}
use Rattle.std.proofs.Math.ListN.{drop_of_length-le}
use Rattle.dt_live.specs.Flattened.{lists}
use Rattle.dt_live.proofs.WholeTrees.{whole-all, whole-bare, whole-rows}
use Rattle.dt_overlay.specs.Private.Symbols.{symbol_value, with_all}
use Rattle.dt_overlay.proofs.Lawful.{whole-lawful}
use Rattle.dt_overlay.proofs.SymbolSteps.{lawful-more, left-more}
use Rattle.dt_overlay.proofs.symbols.put_symbols.Goals as goal

pub loop-symbol-init : goal.loop-symbol-init
loop-symbol-init c =
    let d = c.args.live.now in
    let w = c.requires.whole in
    record { sound = w.sound; rows = whole-all d w; labels = whole-bare d w; lawful = whole-lawful d w; rest = refl }

pub loop-symbol-preserved : goal.loop-symbol-preserved
loop-symbol-preserved c =
    let old = c.loop-symbol.live in
    let new = c.put_symbol.new.live in
    let inv = c.loop-symbol.invariant in
    let i = c.loop-symbol.symbol-index in
    let x = c.symbol-item.result in
    let e = c.in_ok-put_symbol.ensures in
    record {
      sound = e.sound;
      rows = e.rows inv.rows;
      labels = e.labels ∙ inv.labels;
      lawful = lawful-more x (lists old) (lists new) c.args.symbols.now i (c.requires.named i x c.loop-symbol-test.true) c.symbol-item.is c.as_slice.result.now c.as_slice.ensures.value e.put inv.lawful;
      rest = left-more c.args.symbols.now i x c.loop-symbol-test.true c.symbol-item.is (lists old) (lists new) c.as_slice.result.now c.as_slice.ensures.value e.put ∙ inv.rest;
    }

pub returns-clause-whole : goal.returns-clause-whole
returns-clause-whole c =
    let d = c.loop-symbol.live in
    let inv = c.loop-symbol.invariant in
    whole-rows d inv.sound inv.rows inv.labels inv.lawful.nodes inv.lawful.properties

pub returns-clause-put : goal.returns-clause-put
returns-clause-put c =
    let d = c.loop-symbol.live in
    sym (ap (λ xs. with_all (map symbol_value xs) (lists d)) (drop_of_length-le c.args.symbols.now c.loop-symbol-test.false)) ∙ c.loop-symbol.invariant.rest
