use Rattle.std.proofs.Common.{◌≡◌, ◌∷◌, ◌++◌, [], Some, ℕ, length, ap, ◌∙◌, subst, arith}
use Rattle.dt_live.specs.Placed.Shown.{AreShown}
use Rattle.dt_live.specs.Placed.Tables.{rows_in}
use Rattle.dt_live.proofs.PlacedLemmas.ShownNodes.{none-shown}
use Rattle.dt_live.proofs.placed.shown.show_nodes.Goals as goal

pub loop-row-init : goal.loop-row-init
loop-row-init g c =
    none-shown (rows_in c.args.nodes.now) (record { live = c.new.result; numbers = c.push.new.self }) c.new.ensures.sound c.new.ensures.state
    (c.in_ok-push.ensures.items ∙ ap (λ ns. ns ++ Some 0 ∷ []) c.in_ok-with_capacity.ensures.items)

pub loop-row-preserved : goal.loop-row-preserved
loop-row-preserved g c = c.in_ok-show.ensures

pub returns : goal.returns
returns g c =
    let nodes = rows_in c.args.nodes.now in
    let at : c.loop-row.row ≡ length nodes = omega (arith, c.loop-row-test.false, c.loop-row.auto.row-end, c.len-row-end.ensures) in
    subst (λ (n : ℕ). AreShown nodes n c.loop-row.shown) at c.loop-row.invariant
