-- A live tree that was made of a tree, and of which nothing was removed, is the flattened tree.
use Rattle.std.proofs.Common.{◌≡◌, ℕ, suc, true, List, [], ◌∷◌, length, map, sym, ap, ◌∙◌, subst, arith}
use Rattle.std.specs.List.{list_all}
use Rattle.dt_tree.specs.Name.{are_names}
use Rattle.dt_tree.specs.NodeData.{NodeData}
use Rattle.dt_tree.specs.Preorder.{paths_among}
use Rattle.dt_tree.specs.Sound.{IsSound}
use Rattle.dt_source.specs.TreeMeaning.Paths.{Path}
use Rattle.dt_source.specs.TreeMeaning.Edits.{Definition}
use Rattle.dt_live.specs.Builder.Lists.{lists_of}
use Rattle.dt_live.specs.Builder.Standing.{AreNodes, AreFollowed}
use Rattle.dt_live.proofs.BuilderLemmas.TreeNodes.{tree-nodes}
use Rattle.dt_live.specs.declared.live_tree.LiveTree.{LiveTree}
use Rattle.dt_live.specs.Rows.{IsLiveTree, path_of, state_of}
use Rattle.dt_live.specs.ByRow.{has_all_rows, is_named}
use Rattle.dt_live.specs.Flattened.{Lent, lists, first_nodes, nodes_from, IsWhole, IsOrdered, IsFlattened}
use Rattle.dt_live.proofs.RowOrder.{Along, along-tree, in-order, rows-in-order}
use Rattle.dt_live.proofs.TreePaths.{tree-followed, names-lawful, tree-lawful}
use Rattle.dt_live.proofs.WholeTrees.{all-entries, all-paths, one-number, whole-rows}
use Rattle.dt_live.proofs.WholeRows.{entry}

module _ (d : LiveTree Lent) (b : NodeData) (sound : IsLiveTree d) (tree : IsSound b) (rows : has_all_rows d ≡ true) (bare : (state_of d).labels ≡ []) (same : lists d ≡ lists_of b) where
  paths-same : (lists d).nodes ≡ paths_among b.children
  paths-same = ap (λ r. r.nodes) same

  whole : IsWhole d
  whole =
      whole-rows d sound rows bare (ap (list_all are_names) paths-same ∙ names-lawful b.children tree.siblings.named tree.below)
      (ap (λ r. list_all is_named r.properties) same ∙ tree-lawful b tree)

  entries-same : map (entry (path_of d.nodes.items)) d.properties.items ≡ (lists_of b).properties
  entries-same = sym (all-entries d sound whole.stand whole.valued) ∙ ap (λ r. r.properties) same

  along : Along (map (path_of d.nodes.items) (nodes_from 0 (suc (length d.nodes.items)))) (map (entry (path_of d.nodes.items)) d.properties.items)
  along =
      let at = along-tree b in
      subst (λ (es : List (Definition (List ℕ))). Along ([] ∷ map (path_of d.nodes.items) (first_nodes (length d.nodes.items))) es) (sym entries-same)
      (subst (λ (ps : List Path). Along ([] ∷ ps) (lists_of b).properties) (sym paths-same ∙ all-paths d sound whole.stand) at)

  ordered : IsOrdered d
  ordered = record {
    nodes = all-paths d sound whole.stand;
    once = subst AreNodes (sym paths-same) (tree-nodes b tree);
    followed = subst AreFollowed (sym paths-same) (tree-followed b.children);
    properties = in-order 0 d.properties.items
        (rows-in-order (path_of d.nodes.items) (length d.nodes.items) (one-number d sound whole.stand) (suc (length d.nodes.items)) 0 (omega arith) d.properties.items sound.known along);
  }

  pub flattening : IsFlattened d b
  flattening = record { whole = whole; ordered = ordered; lists = same }
