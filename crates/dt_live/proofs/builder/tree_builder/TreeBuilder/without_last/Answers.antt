use Rattle.std.proofs.Common.{◌≡◌, ◌-◌, ◌∙◌, ap, length, take}
use Rattle.dt_live.specs.Builder.Private.NodeBuilders.{node_so_far}
use Rattle.dt_live.specs.Builder.Builders.{tree_of, last_path}
use Rattle.dt_live.proofs.BuilderLemmas.Chains.{joined}
use Rattle.dt_live.proofs.BuilderLemmas.Steps.{whole, named, close-builder, close-tree, close-last_node}
use Rattle.dt_live.proofs.builder.tree_builder.TreeBuilder.without_last.Goals as goal
use Rattle.dt_live.proofs.builder.tree_builder.TreeBuilder.without_last.Goals.{In_ok-last-in-Some}

pub closed-requires-clause-named : goal.closed-requires-clause-named
closed-requires-clause-named c = named c.self.inside.last (whole c.self.inside.above.items c.self.inside.last c.self.invariant)

pub closed-requires-clause-properties : goal.closed-requires-clause-properties
closed-requires-clause-properties c = (whole c.self.inside.above.items c.self.inside.last c.self.invariant).properties

pub closed-requires-clause-children : goal.closed-requires-clause-children
closed-requires-clause-children c = (whole c.self.inside.above.items c.self.inside.last c.self.invariant).children.distinct

pub closed-requires-clause-height : goal.closed-requires-clause-height
closed-requires-clause-height c = (whole c.self.inside.above.items c.self.inside.last c.self.invariant).height

made : (c : In_ok-last-in-Some) → node_so_far c.in_ok-last-in-Some.last ≡ joined (node_so_far c.in-Some.parent) (node_so_far c.self.inside.last)
made c = c.in_ok-last-in-Some.ensures ∙ ap (joined (node_so_far c.in-Some.parent)) c.closed.ensures

pub invariant_of-result-in-Some : goal.invariant_of-result-in-Some
invariant_of-result-in-Some c =
    close-builder c.self.inside.above.items c.pop.new.self.items c.in-Some.parent c.self.inside.last c.in_ok-last-in-Some.last c.in-Some.ensures.items (made c) c.self.invariant

pub returns-in_ok-last-in-Some-clause-tree : goal.returns-in_ok-last-in-Some-clause-tree
returns-in_ok-last-in-Some-clause-tree c =
    close-tree c.self.inside.above.items c.pop.new.self.items c.in-Some.parent c.self.inside.last c.in_ok-last-in-Some.last c.in-Some.ensures.items (made c) ∙ ap tree_of c.self.view_is

pub returns-in_ok-last-in-Some-clause-last_node : goal.returns-in_ok-last-in-Some-clause-last_node
returns-in_ok-last-in-Some-clause-last_node c =
    close-last_node c.self.inside.above.items c.pop.new.self.items c.in-Some.parent c.self.inside.last c.in_ok-last-in-Some.last c.in-Some.ensures.items (made c)
    ∙ ap (λ bs. take (length (last_path bs) - 1) (last_path bs)) c.self.view_is
