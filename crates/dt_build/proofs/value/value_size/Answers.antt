use Rattle.std.proofs.Common.{◌+◌, drop, arith}
use Rattle.dt_live.specs.Rows.{node_path}
use Rattle.dt_build.specs.Private.Made.{all_phandles}
use Rattle.dt_build.specs.Private.Values.{found_of, founds_of}
use Rattle.dt_build.proofs.ValueSteps.{founds-step, size-more, uses-few}
use Rattle.dt_build.proofs.value.value_size.Goals as goal

pub loop-part-preserved : goal.loop-part-preserved
loop-part-preserved c =
    let p = c.args.draft.now in
    let path = node_path p.live in
    let xs = c.args.value.now in
    let ts = c.args.targets.now in
    let i = c.loop-part.part-index in
    let used = c.loop-part.used in
    let x = c.part-item.result in
    let count = c.target_count-used.result in
    record {
      fits = omega (arith, c.saturating_add-size.ensures);
      few = omega (arith, c.loop-part.invariant.few, c.target_count-used.ensures, uses-few x);
      size = size-more (all_phandles p) (found_of path x c.target_at.result) (founds_of path (drop (i + 1) xs) (drop (used + count) ts)) (founds_of path (drop i xs) (drop used ts))
          c.loop-part.size c.part_size.result c.saturating_add-size.result _
          (founds-step path xs ts i used x c.target_at.result count c.loop-part-test.true c.part-item.is c.target_at.ensures c.target_count-used.ensures)
          c.part_size.ensures c.saturating_add-size.ensures c.loop-part.invariant.size;
    }
