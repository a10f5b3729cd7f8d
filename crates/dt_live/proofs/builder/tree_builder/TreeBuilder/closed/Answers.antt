use Rattle.std.proofs.Common.{◌∙◌, ap, sym, map}
use Rattle.dt_live.specs.Builder.Private.NodeBuilders.{node_so_far}
use Rattle.dt_live.specs.Builder.Builders.{tree_of, last_path}
use Rattle.dt_live.proofs.BuilderLemmas.Chains.{tree-alone}
use Rattle.dt_live.proofs.BuilderLemmas.Steps.{whole, named}
use Rattle.dt_live.proofs.builder.tree_builder.TreeBuilder.closed.Goals as goal

pub closed-requires-clause-named : goal.closed-requires-clause-named
closed-requires-clause-named c = named c.self.inside.last (whole c.self.inside.above.items c.self.inside.last c.self.invariant)

pub closed-requires-clause-properties : goal.closed-requires-clause-properties
closed-requires-clause-properties c = (whole c.self.inside.above.items c.self.inside.last c.self.invariant).properties

pub closed-requires-clause-children : goal.closed-requires-clause-children
closed-requires-clause-children c = (whole c.self.inside.above.items c.self.inside.last c.self.invariant).children.distinct

pub closed-requires-clause-height : goal.closed-requires-clause-height
closed-requires-clause-height c = (whole c.self.inside.above.items c.self.inside.last c.self.invariant).height

pub returns : goal.returns
returns c =
    let inside = c.self.inside in
    c.closed.ensures
    ∙ sym (tree-alone (map node_so_far inside.above.items) (node_so_far inside.last) (ap last_path c.self.view_is ∙ c.requires))
    ∙ ap tree_of c.self.view_is
