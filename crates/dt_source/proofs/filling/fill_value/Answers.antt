use Rattle.std.proofs.Common.{List, map, sym, ap, ◌∙◌}
use Rattle.dt_source.specs.declared.tree.Part.{Part}
use Rattle.dt_source.specs.Filled.{holds_file}
use Rattle.dt_source.specs.Tree.{part_view}
use Rattle.std.specs.Vec.Iter.{into_iter_items, into_iter_len}
use Rattle.dt_source.specs.Reading.Values.{built}
use Rattle.dt_source.proofs.FillingSteps.{none_left, parts_left, value_filled, found}
use Rattle.dt_source.proofs.filling.fill_value.Goals as goal

pub returns : goal.returns
returns c =
    let i = c.loop-part.invariant in
    let none = none_left (into_iter_len c.loop-part.left) (into_iter_items c.loop-part.left) i.1 c.in_default.ensures.cases.0 in
    let fs = into_iter_items c.loop-part.binaries in
    let whole = sym i.0 ∙ ap (λ ps. parts_left (built c.loop-part.parts) ps fs) none in
    value_filled c.args.value.now.items (into_iter_items c.args.binaries.now) fs (built c.loop-part.parts) (ap (λ (v : List Part). holds_file (map part_view v)) (sym c.as_slice.ensures.value) ∙ sym c.holds_file.ensures ∙ c.if-not-holds_file.false) whole
    ∙ ap (λ x. found (x, fs)) (sym c.in_ok-value.ensures)
