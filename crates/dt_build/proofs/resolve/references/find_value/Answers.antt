use Rattle.std.proofs.Common.{◌+◌, List, [], ◌∷◌, ◌++◌, map, drop, subst}
use Rattle.dt_source.specs.Tree.{part_view}
use Rattle.dt_source.specs.TreeMeaning.Syntax.{Piece}
use Rattle.dt_source.specs.TreeMeaning.References.{found_in}
use Rattle.dt_build.specs.Edit.Said.{tree_of}
use Rattle.dt_build.proofs.ResolveLemmas.EachSteps.{IsSoFar, so-far-more, left-read}
use Rattle.dt_build.proofs.ResolveLemmas.FindingSteps.{adds-then}
use Rattle.dt_build.proofs.resolve.references.find_value.Goals as goal

pub loop-part-preserved : goal.loop-part-preserved
loop-part-preserved c =
    let d = c.args.live.now in
    let value = c.args.value.now in
    let k = c.loop-part.part-index in
    let x = c.part-item.result in
    let f = found_in c.args.plugin (tree_of d) in
    let all = map part_view value in
    let rest = map part_view (drop (k + 1) value) in
    let i = c.loop-part.invariant in
    let step = c.in_default.ensures.step in
    let next = left-read part_view value k x c.loop-part-test.true c.part-item.is in (
      i.0 ++ step.0 ∷ [],
      record {
        known = c.in_default.ensures.known;
        so_far = so-far-more f i.0 (part_view x) rest all step.0 (subst (λ (ps : List Piece). IsSoFar f i.0 ps all) next i.1.so_far) step.1;
        adds = adds-then d i.0 (step.0 ∷ []) c.args.targets.now c.loop-part.targets c.find_part.new.targets i.1.adds step.2;
      },
    )
