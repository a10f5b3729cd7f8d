use Rattle.std.proofs.Common.{◌≡◌, ◌∙◌, ◌++◌, [], length, get_or, map, ap, sym, arith, append-nil}
use Rattle.std.proofs.lemmas.List.{get_or-replicate, length-replicate, at_drop_all}
use Rattle.dtman_check.specs.Table.Units.{units_from}
use Rattle.dtman_check.proofs.UnitsLemmas.{units-count, units-more}
use Rattle.dtman_check.proofs.table.units.units_below.Goals as goal

pub loop-place-init : goal.loop-place-init
loop-place-init c =
    let n = length c.args.nodes.now in
    record {
      count = ap length c.in_ok-below.ensures ∙ length-replicate n [];
      units = λ above h. ap (λ ls. get_or ls above [] ++ units_from c.args.counted above 0 c.args.nodes.now) c.in_ok-below.ensures
          ∙ ap (λ l. l ++ units_from c.args.counted above 0 c.args.nodes.now) (get_or-replicate n above [] [] h);
    }

pub loop-place-preserved : goal.loop-place-preserved
loop-place-preserved c =
    let old = map (λ list. list.items) c.loop-place.below.items in
    let count : length old ≡ length c.args.nodes.now = c.loop-place.invariant.count in
    record {
      count = ap length c.in_ok-put_unit.ensures ∙ units-count c.args.counted c.index-nodes-place.result c.loop-place.place old ∙ count;
      units = λ above h.
          units-more c.args.counted above c.loop-place.place c.args.nodes.now c.index-nodes-place.result old _ _ c.loop-place-test.true c.index-nodes-place.is
          (omega arith) c.in_ok-put_unit.ensures (c.loop-place.invariant.units above h);
    }

pub returns : goal.returns
returns c =
    let below = map (λ list. list.items) c.loop-place.below.items in
    record {
      count = c.loop-place.invariant.count;
      units = λ above h.
          sym (at_drop_all (λ ps. get_or below above [] ++ units_from c.args.counted above c.loop-place.place ps) c.args.nodes.now c.loop-place.place c.loop-place-test.false ∙ append-nil (get_or below above []))
          ∙ c.loop-place.invariant.units above h;
    }
