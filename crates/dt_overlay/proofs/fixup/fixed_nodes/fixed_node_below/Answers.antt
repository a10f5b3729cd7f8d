use Rattle.std.proofs.Common.{◌≡◌, ◌∙◌, Some, None, false, sym, subst, rules}
use Rattle.std.specs.Str.{bytes_eq}
use Rattle.dt_tree.proofs.SeenNames.{bytes_eq-comm}
use Rattle.dt_live.specs.Rows.{child_of, node_path}
use Rattle.dt_source.specs.TreeMeaning.Names.{local_fixups_name}
use Rattle.dt_overlay.specs.declared.fixup.fixed_nodes.FixedNode.{FixedNode}
use Rattle.dt_overlay.specs.Fixup.Private.FixedNodes.{IsFixedNode}
use Rattle.dt_overlay.proofs.FixupLemmas.FixedNodeLaws.{below-missing, below-none, below-some, top-other}
use Rattle.dt_overlay.proofs.fixup.fixed_nodes.fixed_node_below.Goals as goal

pub returns-in-Missing : goal.returns-in-Missing
returns-in-Missing c =
    let d = c.args.live.now in
    below-missing d c.requires.whole c.args.parent c.args.name.now (subst (λ (t : FixedNode). IsFixedNode d.nodes.items (node_path d c.args.parent) t) c.in-Missing.is c.requires.fixed_node)

pub returns-in-Some : goal.returns-in-Some
returns-in-Some c =
    let d = c.args.live.now in
    let found : child_of d c.in-Node.node c.args.name.now ≡ Some c.in-Some.child = sym c.child.ensures ∙ c.in-Some.is in
    below-some d c.requires.whole c.args.parent c.args.name.now c.in-Node.node c.in-Some.child (subst (λ (t : FixedNode). IsFixedNode d.nodes.items (node_path d c.args.parent) t) c.in-Node.is c.requires.fixed_node) found

pub returns-in-None : goal.returns-in-None
returns-in-None c =
    let d = c.args.live.now in
    let none : child_of d c.in-Node.node c.args.name.now ≡ None = sym c.child.ensures ∙ c.in-None.is in
    below-none d c.requires.whole c.args.parent c.args.name.now c.in-Node.node (subst (λ (t : FixedNode). IsFixedNode d.nodes.items (node_path d c.args.parent) t) c.in-Node.is c.requires.fixed_node) none

pub returns-else-eq : goal.returns-else-eq
returns-else-eq c =
    let d = c.args.live.now in
    let other : bytes_eq c.args.name.now local_fixups_name ≡ false = search rules in
    top-other d c.requires.whole c.args.parent c.args.name.now c.if-parent-ne0.false (bytes_eq-comm local_fixups_name c.args.name.now ∙ other)
