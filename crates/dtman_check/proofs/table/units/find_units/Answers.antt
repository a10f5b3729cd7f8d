use Rattle.std.proofs.Common.{◌≡◌, ◌∙◌, ◌<◌, ◌++◌, ℕ, List, length, ap, sym, arith, append-nil}
use Rattle.std.proofs.lemmas.List.{length-map, at_drop_all}
use Rattle.dt_check.specs.Nodes.{PlacedData}
use Rattle.dtman_check.specs.Table.Units.{units_from, units_found_from}
use Rattle.dtman_check.proofs.UnitsLemmas.{units-at, units-found-more}
use Rattle.dtman_check.proofs.table.units.find_units.Goals as goal

pub loop-above-init : goal.loop-above-init
loop-above-init c =
    let found = λ (ns : List PlacedData). units_found_from c.args.check c.args.counted c.args.survey.now 0 ns in
    ap (λ l. l ++ found c.as_slice-nodes.result.now) c.new-findings.ensures.items ∙ ap found c.as_slice-nodes.ensures

pub loop-above-preserved : goal.loop-above-preserved
loop-above-preserved c =
    let nodes = c.as_slice-nodes.result.now in
    let below = c.in_ok-below.below.items in
    let place : ℕ = c.loop-above.above in
    let there : place < length nodes = c.loop-above-test.true in
    let count : length below ≡ length nodes = sym (length-map below (λ list. list.items)) ∙ c.in_ok-below.ensures.count in
    let at : place < length below = omega arith in
    let are = c.as_slice.ensures.value ∙ units-at below place c.index.result.now at c.index.ensures ∙ c.in_ok-below.ensures.units place there
    ∙ ap (λ (ns : List PlacedData). units_from c.args.counted place 0 ns) c.as_slice-nodes.ensures in
    units-found-more c.args.check c.args.counted c.args.survey.now nodes place c.index-nodes-above.result c.as_slice.result.now c.loop-above.findings.items _ _ there c.index-nodes-above.is are
    c.in_ok-find_below.ensures c.loop-above.invariant

pub returns : goal.returns
returns c =
    let found = c.loop-above.findings.items in
    sym (at_drop_all (λ (ns : List PlacedData). found ++ units_found_from c.args.check c.args.counted c.args.survey.now c.loop-above.above ns) c.as_slice-nodes.result.now c.loop-above.above c.loop-above-test.false ∙ append-nil found)
    ∙ c.loop-above.invariant
