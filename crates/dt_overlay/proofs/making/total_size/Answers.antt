use Rattle.std.proofs.Common.{◌-◌, ◌^◌, map, min, sym, ap, ◌∙◌}
use Rattle.dt_live.specs.Builder.Sizes.{size_in}
use Rattle.dt_live.specs.ByRow.{defined_by}
use Rattle.dt_live.proofs.WholeTrees.{all-entries}
use Rattle.dt_overlay.proofs.MakingSteps.{sizes-all}
use Rattle.dt_overlay.proofs.making.total_size.Goals as goal

pub returns : goal.returns
returns c =
    let d = c.args.live.now in
    let w = c.requires in
    sizes-all (defined_by d) c.properties-row-items.result.now c.loop-row.row-index c.loop-row.size _ c.loop-row-test.false c.loop-row.invariant.fits
    c.loop-row.invariant.size
    ∙ ap (λ rs. min (size_in rs) (2 ^ 64 - 1)) (ap (map (defined_by d)) c.loop-row.invariant.rows ∙ sym (all-entries d w.sound w.stand w.valued))
