-- The next of the children that two nodes have: what it has is listed where both have it.
use Rattle.std.proofs.Common.{◌≡◌, ℕ, List, [], ◌∷◌, ◌++◌, Option, Some, None, ap, sym, ◌∙◌, append_assoc, refl}
use Rattle.std.specs.Option.{option_map_or}
use Rattle.dt_tree.specs.NodeData.{Siblings, more, NodeData, node_data, nodes_of, siblings}
use Rattle.dt_tree.specs.PathMap.{child_named}
use Rattle.dtman_blobs.specs.Difference.Named.{NamedNode}
use Rattle.dtman_blobs.specs.Difference.Difference.{DifferenceData}
use Rattle.dtman_blobs.specs.Difference.Private.Differences.{node_differences, own_differences, shared_differences}

pub nodes-siblings : (bs : List NodeData) → nodes_of (siblings bs) ≡ bs
nodes-siblings [] = refl
nodes-siblings (b ∷ bs) = ap (λ (l : List NodeData). b ∷ l) (nodes-siblings bs)

module _ (first second : ℕ → Option NamedNode) (path : List ℕ) (g : Siblings) where
  -- what stands below a child of the first node
  abbrev below_child : NodeData → Option NodeData → List DifferenceData
  below_child b o = option_map_or
      (λ d. own_differences first second (path ++ 47 ∷ b.name) (node_data b.name b.properties b.children) d ++ shared_differences first second (path ++ 47 ∷ b.name) b.children d.children)
      o []

  pub next-found : (before after whole : List DifferenceData) (below : List ℕ) (f rest : Siblings) (b d : NodeData) → f ≡ more b.name b.properties b.children rest → child_named g b.name ≡ Some d
      → below ≡ path ++ 47 ∷ b.name → after ≡ before ++ node_differences first second below b d → before ++ shared_differences first second path f g ≡ whole → after ++ shared_differences first second path rest g ≡ whole
  next-found before after whole below f rest b d next found at is left =
      ap (λ (l : List DifferenceData). l ++ shared_differences first second path rest g) (is ∙ ap (λ (w : List ℕ). before ++ node_differences first second w b d) at)
      ∙ append_assoc before (node_differences first second (path ++ 47 ∷ b.name) b d) (shared_differences first second path rest g)
      ∙ ap (λ (o : Option NodeData). before ++ (below_child b o ++ shared_differences first second path rest g)) (sym found)
      ∙ ap (λ (s : Siblings). before ++ shared_differences first second path s g) (sym next) ∙ left

  pub next-missing : (before whole : List DifferenceData) (f rest : Siblings) (b : NodeData) → f ≡ more b.name b.properties b.children rest → child_named g b.name ≡ None
      → before ++ shared_differences first second path f g ≡ whole → before ++ shared_differences first second path rest g ≡ whole
  next-missing before whole f rest b next missing left =
      ap (λ (o : Option NodeData). before ++ (below_child b o ++ shared_differences first second path rest g)) (sym missing)
      ∙ ap (λ (s : Siblings). before ++ shared_differences first second path s g) (sym next) ∙ left
