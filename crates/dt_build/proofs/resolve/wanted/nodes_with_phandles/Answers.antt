use Rattle.std.proofs.Common.{true, ◌∙◌, arith}
use Rattle.std.proofs.lemmas.Grind.{common_steps}
use Rattle.std.proofs.lemmas.List.{length-set}
use Rattle.dt_build.proofs.resolve.wanted.nodes_with_phandles.Goals as goal

pub loop-one-preserved : goal.loop-one-preserved
loop-one-preserved c = record {
  count = length-set c.loop-one.marks.items _ true ∙ c.loop-one.invariant.count;
  marks = λ n. grind (arith, common_steps, c.loop-one.invariant.marks n);
}
