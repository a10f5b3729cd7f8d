use Rattle.std.proofs.Common.{rules, ◌∙◌, ap}
use Rattle.dt_source.specs.TreeMeaning.MapOf.{map_of}
use Rattle.dt_live.specs.Builder.Lists.{lists_of}
use Rattle.dt_live.proofs.BuilderLemmas.TreeLists.{map-lists}
use Rattle.dt_live.proofs.builder.tree_builder.TreeBuilder.finish.Goals as goal

pub returns-clause-map : goal.returns-clause-map
returns-clause-map c =
    map-lists c.closed-root.result c.check.ensures ∙ ap (λ b. map_of (lists_of b)) (c.closed-root.ensures ∙ c.in_ok-closed_to.ensures.tree)

pub closed-root-requires : goal.closed-root-requires
closed-root-requires c = search rules
