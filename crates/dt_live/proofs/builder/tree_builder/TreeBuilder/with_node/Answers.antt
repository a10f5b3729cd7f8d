use Rattle.std.proofs.Common.{◌≡◌, ◌<◌, ◌++◌, ◌∷◌, [], ◌∙◌, ap, sym, length, false, subst, List}
use Rattle.dt_tree.specs.declared.limits.TheConstants.{MAX_DEPTH}
use Rattle.dt_tree.specs.NodeData.{NodeData}
use Rattle.dt_source.specs.TreeMeaning.Paths.{is_listed}
use Rattle.dt_live.specs.Builder.Lists.{lists_of, with_last}
use Rattle.dt_live.specs.Builder.Builders.{tree_of, last_path}
use Rattle.dt_live.proofs.BuilderLemmas.Steps.{grow-builder, grow-last_node, grow-lists}
use Rattle.dt_live.proofs.builder.tree_builder.TreeBuilder.with_node.Goals as goal

pub invariant_of-result : goal.invariant_of-result
invariant_of-result c =
    let inside = c.self.inside in
    grow-builder inside.above.items c.push.new.self.items inside.last c.new.result c.args.name c.args.properties.items c.in_ok-push.ensures.items c.new.ensures
    c.check.ensures c.requires.properties
    (subst (λ (bs : List NodeData). length (last_path bs) < MAX_DEPTH) (sym c.self.view_is) c.requires.shallow)
    (subst (λ (bs : List NodeData). is_listed (last_path bs ++ c.args.name ∷ []) (lists_of (tree_of bs)).nodes ≡ false) (sym c.self.view_is) c.requires.new)
    c.self.invariant

pub returns-clause-nodes : goal.returns-clause-nodes
returns-clause-nodes c =
    let inside = c.self.inside in
    grow-lists inside.above.items c.push.new.self.items inside.last c.new.result c.args.name c.args.properties.items c.in_ok-push.ensures.items c.new.ensures
    ∙ ap (λ bs. with_last (last_path bs ++ c.args.name ∷ []) c.args.properties.items (lists_of (tree_of bs))) c.self.view_is

pub returns-clause-last_node : goal.returns-clause-last_node
returns-clause-last_node c =
    let inside = c.self.inside in
    grow-last_node inside.above.items c.push.new.self.items inside.last c.new.result c.args.name c.args.properties.items c.in_ok-push.ensures.items c.new.ensures
    ∙ ap (λ bs. last_path bs ++ c.args.name ∷ []) c.self.view_is
