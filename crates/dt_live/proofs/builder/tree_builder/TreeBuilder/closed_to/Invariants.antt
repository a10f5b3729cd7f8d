use Rattle.std.proofs.Common.{◌≡◌, length, take}
use Rattle.dt_live.specs.Builder.Builders.{tree_of, last_path}
use Rattle.dt_live.proofs.builder.tree_builder.TreeBuilder.closed_to.Given as goal

abbrev pub invariant-loop-builder : goal.invariant-loop-builder
invariant-loop-builder l = record {
  tree : tree_of l.builder ≡ tree_of l.fn.self;
  last_node : take l.depth (last_path l.builder) ≡ take l.depth (last_path l.fn.self);
}

abbrev pub decreases-loop-builder : goal.decreases-loop-builder
decreases-loop-builder l = length (last_path l.builder)
