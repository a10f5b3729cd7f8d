use Rattle.std.proofs.Common.{◌∙◌}
use Rattle.dt_live.specs.Builder.Sizes.{size_in}
use Rattle.dt_build.specs.Private.Made.{lists}
use Rattle.dt_build.proofs.BuildingSteps.{fits-within, passed, too-long, tree-made}
use Rattle.dt_build.proofs.building.fitting_tree.Goals as goal

pub returns-then-total_size-limit : goal.returns-then-total_size-limit
returns-then-total_size-limit c =
    let size = size_in (lists c.args.symbols c.args.draft.now).properties in (
      too-long size c.args.limit c.total_size.result c.total_size.ensures c.if-total_size-limit.true,
      passed size c.args.limit c.total_size.result c.total_size.ensures c.if-total_size-limit.true,
    )

pub returns : goal.returns
returns c = record {
  map = tree-made c.args.symbols c.args.source.now c.args.draft.now c.in_ok-reserves.reserves.items c.in_ok-root.root c.in-Ok.tree c.in-Ok.ensures.tree (c.in_ok-reserves.ensures.items ∙ c.as_slice.ensures.value)
      c.in_ok-root.ensures.map;
  fits = fits-within (size_in (lists c.args.symbols c.args.draft.now).properties) c.args.limit c.total_size.result c.total_size.ensures c.if-total_size-limit.false;
}
