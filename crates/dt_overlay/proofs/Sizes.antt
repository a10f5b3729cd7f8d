-- The properties of a whole live tree all stand in its tree, so that they are no longer together than those of a tree with its map.
use Rattle.std.proofs.Common.{◌≡◌, ℕ, zero, suc, ◌≤◌, true, List, [], ◌∷◌, length, map, sym, subst, arith}
use Rattle.std.specs.Prelude.{All}
use Rattle.dt_tree.specs.NodeData.{NodeData}
use Rattle.dt_tree.specs.PathMap.{path_map}
use Rattle.dt_tree.specs.Sound.{IsSound}
use Rattle.dt_source.specs.TreeMeaning.Paths.{is_listed}
use Rattle.dt_source.specs.TreeMeaning.Edits.{Definition}
use Rattle.dt_source.specs.TreeMeaning.MapOf.{map_of}
use Rattle.dt_live.specs.declared.live_tree.LiveTree.{LiveTree}
use Rattle.dt_live.specs.declared.live_tree.PropertyRow.{PropertyRow}
use Rattle.dt_live.specs.Index.{row_of}
use Rattle.dt_live.specs.Rows.{property_at}
use Rattle.dt_live.specs.Builder.Sizes.{size_in, size_below}
use Rattle.dt_live.proofs.BuilderLemmas.SizesOfMaps.{once-by_names, sizes-of-lists}
use Rattle.dt_live.proofs.NodesStanding.{there-by}
use Rattle.dt_live.specs.ByRow.{defined_by}
use Rattle.dt_live.specs.Flattened.{IsWhole, Lent, lists}
use Rattle.dt_live.proofs.WholeTrees.{all-entries}
use Rattle.dt_overlay.proofs.MakingApart.{own-apart}

module _ (d : LiveTree Lent) (w : IsWhole d) where
  rows-there : (rs : List (PropertyRow Lent)) → ((i : ℕ) → (property_at rs i).node ≤ length d.nodes.items) → All (λ e. is_listed e.path ([] ∷ (lists d).nodes) ≡ true) (map (defined_by d) rs)
  rows-there [] known i x below = absurd (omega arith)
  rows-there (r ∷ rs) known zero x below = there-by d.nodes.items (row_of d.node_rows) w.sound.grown w.sound.nodes (length d.nodes.items) r.node (known 0) (w.stand r.node (known 0))
  rows-there (r ∷ rs) known (suc i) x below = rows-there rs (λ j. known (suc j)) i x (omega arith)

  pub live-there : All (λ e. is_listed e.path ([] ∷ (lists d).nodes) ≡ true) (lists d).properties
  live-there =
      subst (λ (es : List (Definition (List ℕ))). All (λ e. is_listed e.path ([] ∷ (lists d).nodes) ≡ true) es) (sym (all-entries d w.sound w.stand w.valued)) (rows-there d.properties.items w.sound.known)

  pub live-longer : (b : NodeData) → IsSound b → path_map b ≡ map_of (lists d) → size_in (lists d).properties ≤ size_below b
  live-longer b sound same = sizes-of-lists b (lists d) sound same (once-by_names (lists d).properties (own-apart d w)) live-there
