use Rattle.std.proofs.Common.{◌≡◌, ◌∙◌, ◌∷◌, ◌++◌, ◌+◌, [], List, get_or, map, sym, ap, subst, take}
use Rattle.std.proofs.lemmas.List.{map-append, take_more}
use Rattle.dt_source.specs.TreeMeaning.Paths.{Path}
use Rattle.dt_live.specs.declared.live_tree.LiveTree.{LiveTree}
use Rattle.dt_live.specs.Rows.{IsLiveTree, node_path}
use Rattle.dt_build.specs.Edit.Said.{Parts}
use Rattle.dt_build.specs.Resolve.Private.Gone.{Leaves}
use Rattle.dt_build.proofs.ResolveLemmas.LeftRows.{leaves-more, leaves-none, leaves-skip}
use Rattle.dt_build.proofs.resolve.leaving.remove_nodes.Goals as goal
use Rattle.dt_build.proofs.resolve.leaving.remove_nodes.Goals.{then-is_in_tree, else-is_in_tree}

pub loop-node-init : goal.loop-node-init
loop-node-init c = record { sound = c.requires.sound; left = leaves-none c.args.live.now }

pub loop-node-preserved : goal.loop-node-preserved
loop-node-preserved c =
    let old = c.args.live.now in
    let gone = c.args.gone.now in
    let i = c.loop-node.node-index in
    let n = get_or gone i 0 in
    let before = map (node_path old) (take i gone) in
    let more : before ++ node_path old n ∷ [] ≡ map (node_path old) (take (i + 1) gone) =
    sym (ap (map (node_path old)) (take_more gone i 0 c.loop-node-test.true) ∙ map-append (node_path old) (take i gone) (n ∷ [])) in
    let was = c.requires.gone i 0 c.loop-node-test.true in
    elim c.if-is_in_tree.branch [
      | then-is_in_tree w ↦ record {
        sound = subst (λ (d : LiveTree Parts). IsLiveTree d) (sym w.live-is) w.remove_node.ensures.sound;
        left = subst (λ (d : LiveTree Parts). Leaves (map (node_path old) (take (i + 1) gone)) old d) (sym w.live-is)
            (subst (λ (ps : List Path). Leaves ps old w.remove_node.new.self) more
            (leaves-more before old c.loop-node.live n c.loop-node.invariant.left was w.remove_node.new.self (sym c.is_in_tree.ensures ∙ w.if-is_in_tree.true) w.remove_node.ensures.taken w.remove_node.ensures.state));
      }
      | else-is_in_tree w ↦ record {
        sound = subst (λ (d : LiveTree Parts). IsLiveTree d) (sym w.live-is) c.loop-node.invariant.sound;
        left = subst (λ (d : LiveTree Parts). Leaves (map (node_path old) (take (i + 1) gone)) old d) (sym w.live-is)
            (subst (λ (ps : List Path). Leaves ps old c.loop-node.live) more
            (leaves-skip before old c.loop-node.live n c.loop-node.invariant.left was (sym c.is_in_tree.ensures ∙ w.if-is_in_tree.false)));
      }
    ]
