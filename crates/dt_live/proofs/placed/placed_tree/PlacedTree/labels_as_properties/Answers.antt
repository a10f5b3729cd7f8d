use Rattle.std.proofs.Common.{◌≡◌, ◌+◌, ◌-◌, ℕ, length, subst, arith}
use Rattle.dt_live.specs.Placed.Standing.{HasLabelRows}
use Rattle.dt_live.specs.Placed.Tables.{rows_in}
use Rattle.dt_live.proofs.PlacedLemmas.LabelsShown.{none-put}
use Rattle.dt_live.proofs.placed.placed_tree.PlacedTree.labels_as_properties.Goals as goal

pub loop-place-init : goal.loop-place-init
loop-place-init g c = none-put c.args.self.now (length (rows_in c.args.self.now.labels) - 0) c.in_ok-shown.shown (omega arith) c.in_ok-shown.ensures

pub show_label-requires-clause-shown : goal.show_label-requires-clause-shown
show_label-requires-clause-shown g c =
    let n = length (rows_in c.args.self.now.labels) in
    let at : n - c.loop-place.place ≡ c.len-count.result - 1 - c.loop-place.place + 1 = omega (arith, c.len-count.ensures, c.loop-place-test.true) in
    subst (λ (k : ℕ). HasLabelRows c.args.self.now k c.loop-place.shown) at c.loop-place.invariant

pub loop-place-preserved : goal.loop-place-preserved
loop-place-preserved g c =
    let n = length (rows_in c.args.self.now.labels) in
    let at : c.len-count.result - 1 - c.loop-place.place ≡ n - (c.loop-place.place + 1) = omega (arith, c.len-count.ensures, c.loop-place-test.true) in
    subst (λ (k : ℕ). HasLabelRows c.args.self.now k c.show_label.new.shown) at c.in_ok-show_label.ensures

pub returns : goal.returns
returns g c =
    let n = length (rows_in c.args.self.now.labels) in
    let at : n - c.loop-place.place ≡ 0 = omega (arith, c.len-count.ensures, c.loop-place-test.false) in
    subst (λ (k : ℕ). HasLabelRows c.args.self.now k c.loop-place.shown) at c.loop-place.invariant
