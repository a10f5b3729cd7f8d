use Rattle.std.proofs.Common.{ap, length, arith}
use Rattle.dt_live.specs.Builder.Builders.{last_path}
use Rattle.dt_live.proofs.BuilderLemmas.Steps.{levels}
use Rattle.dt_live.proofs.builder.tree_builder.TreeBuilder.depth.Goals as goal

pub returns : goal.returns
returns c =
    let inside = c.self.inside in
    omega (arith, c.len.ensures, inside.above.ok.0, levels inside.above.items inside.last, ap (λ bs. length (last_path bs)) c.self.view_is)
