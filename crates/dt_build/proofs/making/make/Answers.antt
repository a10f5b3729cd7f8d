use Rattle.std.proofs.Common.{◌≡◌, ap, ◌∙◌}
use Rattle.dt_tree.specs.PathMap.{path_map}
use Rattle.dt_source.specs.TreeMeaning.MapOf.{map_of}
use Rattle.dt_live.specs.Builder.Builders.{built_lists}
use Rattle.dt_live.proofs.BuilderLemmas.MakingWalk.{ok-more}
use Rattle.dt_build.specs.Private.Made.{lists}
use Rattle.dt_build.proofs.ListsOfPrepared.{map-lists_walked}
use Rattle.dt_build.proofs.making.make.Goals as goal

pub returns-clause-map : goal.returns-clause-map
returns-clause-map c =
    let p = c.args.draft.now in
    ok-more (λ root. path_map root ≡ map_of (built_lists c.in_ok-with_all.field-0)) (λ root. path_map root ≡ map_of (lists c.args.symbols p))
    (λ root e. e ∙ ap map_of c.in_ok-with_all.ensures ∙ map-lists_walked c.args.symbols p c.requires.ready c.requires.free c.requires.shallow)
    c.finish.result c.finish.ensures.map
