use Rattle.std.proofs.Common.{◌<◌, ◌+◌, length, refl, ◌∙◌, arith}
use Rattle.std.proofs.lemmas.List.{length-set}
use Rattle.dt_live.proofs.BlankRows.{blank_row}
use Rattle.dt_build.proofs.LocalMarks.{above-less, above-stands, mark-up}
use Rattle.dt_build.proofs.local_nodes.mark.Goals as goal

pub up-preserved : goal.up-preserved
up-preserved c =
    let p = c.args.draft.now in
    let all = c.nodes-rows.result.now in
    let same = c.nodes-rows.ensures in
    let at = c.up.at in
    let within : at < length p.live.nodes.items + 1 = omega (arith, c.up.invariant.known) in
    let up = c.up.invariant.there in
    let some = c.up-test.true in
    record {
      known = omega (arith, c.up.invariant.known, above-less p c.requires.ready all same at blank_row some within up);
      there = above-stands p c.requires.ready all same at blank_row some within up;
      count = length-set c.up.marks.items at _ ∙ c.up.invariant.count;
      marks = λ k there. mark-up p c.requires.ready all same at blank_row some within up c.up.marks.items _ k _ refl (omega (arith, within, c.up.invariant.count, c.requires.count)) there (c.up.invariant.marks k there);
    }
