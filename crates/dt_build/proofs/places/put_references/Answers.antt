use Rattle.std.proofs.Common.{◌+◌, drop, arith}
use Rattle.dt_live.specs.Rows.{node_path}
use Rattle.dt_build.specs.Private.Made.{all_phandles}
use Rattle.dt_build.specs.Private.Values.{found_of, founds_of}
use Rattle.dt_build.proofs.PlaceSteps.{offsets-more}
use Rattle.dt_build.proofs.ValueSteps.{founds-step, uses-few}
use Rattle.dt_build.proofs.places.put_references.Goals as goal

pub loop-part-preserved : goal.loop-part-preserved
loop-part-preserved c =
    let p = c.args.draft.now in
    let path = node_path p.live in
    let xs = c.args.parts.now in
    let ts = c.args.targets.now in
    let i = c.loop-part.part-index in
    let used = c.loop-part.used in
    let x = c.part-item.result in
    let count = c.target_count-used.result in
    record {
      few = omega (arith, c.loop-part.invariant.few, c.target_count-used.ensures, uses-few x);
      offsets = offsets-more (all_phandles p) (found_of path x c.target_at-target.result) (founds_of path (drop (i + 1) xs) (drop (used + count) ts)) (founds_of path (drop i xs) (drop used ts))
          c.loop-part.offset c.in_ok-offset.offset c.loop-part.offsets.items c.put_reference.new.offsets.items _
          (founds-step path xs ts i used x c.target_at-target.result count c.loop-part-test.true c.part-item.is c.target_at-target.ensures c.target_count-used.ensures)
          (c.in_ok-put_reference.ensures path c.target_at-target.result) c.in_ok-offset.ensures c.loop-part.invariant.offsets;
    }
