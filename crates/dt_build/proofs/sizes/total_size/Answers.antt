use Rattle.dt_build.proofs.MakingSizes.{size-lists, sum-capped}
use Rattle.dt_live.specs.Builder.Sizes.{size_in}
use Rattle.dt_build.specs.Private.FixupSites.{sites_size}
use Rattle.dt_build.specs.Private.Made.{lists, made_sites, symbol_lists}
use Rattle.dt_build.proofs.sizes.total_size.Goals as goal

pub returns : goal.returns
returns c =
    let p = c.args.draft.now in
    sum-capped (size_in (lists c.args.symbols p).properties) (size_in (symbol_lists c.args.symbols p).properties) (sites_size (made_sites p)) c.labels_size.result c.sites_size.result c.saturating_add.result
    (size-lists c.args.symbols p) c.labels_size.ensures c.sites_size.ensures c.saturating_add.ensures
