-- The rows in the order of the walk are the tree in preorder.
use Rattle.std.proofs.Common.{◌≡◌, ℕ, zero, suc, ◌≤◌, true, List, [], ◌∷◌, length, map, refl, sym, ap, ◌∙◌, subst, arith}
use Rattle.std.specs.List.{filter, flat_map}
use Rattle.std.proofs.lemmas.List.{take_all}
use Rattle.std.proofs.lemmas.List.Folds.{flat_map-map}
use Rattle.dt_tree.specs.declared.limits.TheConstants.{MAX_DEPTH}
use Rattle.dt_source.specs.TreeMeaning.Paths.{Path}
use Rattle.dt_source.specs.TreeMeaning.Edits.{Definition}
use Rattle.dt_source.specs.TreeMeaning.References.{walk, preorder, held}
use Rattle.dt_live.specs.declared.live_tree.NodeRow.{NodeRow}
use Rattle.dt_live.specs.declared.live_tree.PropertyRow.{PropertyRow}
use Rattle.dt_live.specs.Rows.{Found, path_of, stands, standing, standing_properties, IsGrown, IsNodeIndex}
use Rattle.dt_live.specs.declared.preorder.properties.NodeProperty.{NodeProperty}
use Rattle.dt_live.specs.Private.Walks.{children_to, properties_to, node_property_at, rows_walk}
use Rattle.dt_live.proofs.Each.{Each, each-flat, same-flat, map-flat}
use Rattle.dt_live.proofs.StandingRows.{kids-standing_properties, kids-stand, is_own, standing_as, own-standing_properties}

module _ (rows : List NodeRow) (index : Found) (grown : IsGrown rows) (indexed : IsNodeIndex rows index) where
  abbrev pub Stands : ℕ → Type 0
  Stands m = (m ≤ length rows) × (stands rows m ≡ true)

  abbrev pub kids : ℕ → List ℕ
  kids n = children_to rows (length rows) n

  abbrev pub all : List Path
  all = standing (path_of rows) (stands rows) (length rows)

  -- ---- nodes
  pub walk-paths : (levels n : ℕ) → Stands n → map (path_of rows) (rows_walk levels kids n) ≡ walk levels all (path_of rows n)
  walk-paths zero n there = refl
  walk-paths (suc levels) n there =
      ap (λ ps. path_of rows n ∷ ps)
      (map-flat (path_of rows) (rows_walk levels kids) (kids n)
      ∙ same-flat Stands (λ k. map (path_of rows) (rows_walk levels kids k)) (λ k. walk levels all (path_of rows k)) (kids n) (walk-paths levels)
      (kids-stand rows index grown indexed n there.1 (length rows) (omega arith))
      ∙ sym (flat_map-map (walk levels all) (path_of rows) (kids n))
      ∙ ap (flat_map (walk levels all)) (sym (kids-standing_properties rows index grown indexed n there.1 (length rows))))

  pub walk-stands : (levels n : ℕ) → Stands n → Each Stands (rows_walk levels kids n)
  walk-stands zero n there = (there, tt)
  walk-stands (suc levels) n there =
      (there, each-flat Stands Stands (rows_walk levels kids) (kids n) (walk-stands levels) (kids-stand rows index grown indexed n there.1 (length rows) (omega arith)))

  -- the whole order
  pub order-stands : (levels : ℕ) (order : List ℕ) → order ≡ rows_walk levels kids 0 → Each Stands order
  order-stands levels order e = subst (λ (xs : List ℕ). Each Stands xs) (sym e) (walk-stands levels 0 (omega arith, refl))

  pub in-preorder : (levels : ℕ) (order : List ℕ) → levels ≡ MAX_DEPTH → order ≡ rows_walk levels kids 0 → map (path_of rows) order ≡ preorder all
  unfolding preorder
  in-preorder levels order e at = ap (map (path_of rows)) at ∙ walk-paths levels 0 (omega arith, refl) ∙ ap (λ l. walk l all []) e

  -- ---- properties
  module _ {V : Type 0} (ps : List (PropertyRow V)) where
    abbrev own : ℕ → List ℕ
    own n = properties_to ps (length ps) n

    abbrev es : List (Definition V)
    es = standing_properties (path_of rows) (stands rows) ps

    abbrev pub as_standing : NodeProperty V → Definition V
    as_standing x = standing_as rows x

    one-held : (n : ℕ) → Stands n → map as_standing (flat_map (node_property_at ps) (own n)) ≡ held es (path_of rows n)
    one-held n there =
        sym (ap (λ rs. filter (is_own rows index grown indexed ps n there.1) (standing_properties (path_of rows) (stands rows) rs)) (sym (take_all (length ps) ps (omega arith)))
        ∙ own-standing_properties rows index grown indexed ps n there.1 (length ps) (omega arith))

    pub all-held : (order : List ℕ) → Each Stands order → map as_standing (flat_map (λ n. flat_map (node_property_at ps) (own n)) order) ≡ flat_map (held es) (map (path_of rows) order)
    all-held order there =
        map-flat as_standing (λ n. flat_map (node_property_at ps) (own n)) order
        ∙ same-flat Stands (λ n. map as_standing (flat_map (node_property_at ps) (own n))) (λ n. held es (path_of rows n)) order one-held there
        ∙ sym (flat_map-map (held es) (path_of rows) order)
