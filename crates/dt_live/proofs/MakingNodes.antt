-- The node at a place in the order of a live tree's tree.
use Rattle.std.proofs.Common.{◌≡◌, ℕ, zero, suc, ◌+◌, ◌-◌, ◌≤◌, ◌<◌, List, [], ◌∷◌, ◌++◌, length, get_or, map, take, refl, sym, ap, ◌∙◌, length-append, arith}
use Rattle.std.specs.Prelude.{All, slice_index_or}
use Rattle.std.proofs.lemmas.List.{get_or-map, get_or_default, length-map}
use Rattle.dt_tree.specs.declared.property.Property.{Property}
use Rattle.dt_tree.specs.NodeData.{NodeData}
use Rattle.dt_source.specs.TreeMeaning.References.{held, preorder}
use Rattle.dt_source.specs.TreeMeaning.Resolved.{Resolved}
use Rattle.dt_live.specs.declared.live_tree.LiveTree.{LiveTree}
use Rattle.dt_live.specs.declared.live_tree.NodeRow.{NodeRow}
use Rattle.dt_live.specs.Rows.{IsNode, climb, node_path, path_of, row_at}
use Rattle.dt_live.proofs.PathTests.{snoc-some}
use Rattle.dt_live.specs.Builder.Lists.{defined_at, with_last}
use Rattle.dt_live.specs.Builder.Builders.{built_lists, last_path}
use Rattle.dt_live.specs.Builder.Private.Making.{IsMade}
use Rattle.dt_live.specs.Builder.Standing.{AreNodes}
use Rattle.dt_live.proofs.BuilderLemmas.MakingWalk.{made-more, made-next, not-root, root-made, root-path, some-node}
use Rattle.dt_live.proofs.BuilderLemmas.Pushes.{IsNext}
use Rattle.dt_live.proofs.BlankRows.{blank_row, row-read}

-- these are the nodes of a tree, in the order of the walk
pub record AreInOrder {V : Type 0} (d : LiveTree V) (ns : List ℕ) (r : Resolved) : Type 0 where
  pub order : map (node_path d) ns ≡ preorder r.nodes
  pub standing : AreNodes r.nodes
  pub known : All (λ n. IsNode d n) ns

module _ {V : Type 0} {d : LiveTree V} {ns : List ℕ} {r : Resolved} (are : AreInOrder d ns r) where
  abbrev rows : List NodeRow
  rows = d.nodes.items

  pub count : length ns ≡ length (preorder r.nodes)
  count = sym (length-map ns (node_path d)) ∙ ap length are.order

  pub at-path : (k : ℕ) → k < length ns → get_or (preorder r.nodes) k [] ≡ node_path d (get_or ns k 0)
  at-path k below = ap (λ xs. get_or xs k []) (sym are.order) ∙ get_or-map (node_path d) ns k 0 [] below

  pub root-at : node_path d (get_or ns 0 0) ≡ []
  root-at = sym (at-path 0 (omega (arith, count, some-node r.nodes))) ∙ root-path r.nodes

  -- the root is the first node
  pub root-row : 0 ≡ get_or ns 0 0
  root-row = by_number (get_or ns 0 0) refl where
    by_number : (m : ℕ) → get_or ns 0 0 ≡ m → 0 ≡ m
    by_number zero e = refl
    by_number (suc k) e = absurd (snoc-some (climb k rows (row_at rows k).parent) (row_at rows k).name.now (ap (path_of rows) (sym e) ∙ root-at))

  pub first-made : (new : List NodeData) (ps : List Property) (j : ℕ) → j ≡ 1 → defined_at (node_path d (get_or ns 0 0)) ps ≡ held r.properties (node_path d (get_or ns 0 0))
      → (built_lists new).nodes ≡ [] → (built_lists new).properties ≡ defined_at [] ps → last_path new ≡ [] → IsMade r j new
  first-made new ps j is own = root-made r new ps j is (ap (λ q. defined_at q ps) (sym root-at) ∙ own ∙ ap (held r.properties) root-at)

  -- ---- a node below the root
  module _ (k : ℕ) (some : 1 ≤ k) (below : k < length ns) (n : ℕ) (there : n ≡ slice_index_or ns k n) where
    pub at : n ≡ get_or ns k 0
    at = there ∙ get_or_default ns k n 0 below

    within : k < length (preorder r.nodes)
    within = omega (arith, count)

    pub path-is : node_path d (get_or ns k 0) ≡ path_of rows n
    path-is = ap (path_of rows) (sym at)

    pub below-root : 1 ≤ n
    below-root = by_number n refl where
      by_number : (m : ℕ) → n ≡ m → 1 ≤ m
      by_number zero e = absurd (not-root r.nodes are.standing k some within (at-path k below ∙ path-is ∙ ap (path_of rows) e))
      by_number (suc m) e = omega arith

    pub before : n ≡ suc (n - 1)
    before = omega (arith, below-root)

    pub row-known : n - 1 < length rows
    row-known = omega (arith, at, are.known k 0 below, below-root)

    pub parts : path_of rows n ≡ climb (n - 1) rows (row_at rows (n - 1)).parent ++ (row_at rows (n - 1)).name.now ∷ []
    parts = ap (path_of rows) before

    pub deep : 1 ≤ length (path_of rows n)
    deep = omega (arith, ap length parts, length-append (climb (n - 1) rows (row_at rows (n - 1)).parent) ((row_at rows (n - 1)).name.now ∷ []))

    module _ (all : List NodeRow) (same : all ≡ rows) where
      pub row-is : slice_index_or all (n - 1) blank_row ≡ row_at rows (n - 1)
      row-is = row-read all rows same (n - 1) row-known

      pub row-within : n - 1 < length all
      row-within = omega (arith, row-known, ap length same)

      pub name-read : (name : List ℕ) → name ≡ (slice_index_or all (n - 1) blank_row).name.now → name ≡ (row_at rows (n - 1)).name.now
      name-read name e = e ∙ ap (λ x. x.name.now) row-is

    module _ (bs : List NodeData) (made : IsMade r k bs) (all : List NodeRow) (same : all ≡ rows) (name : List ℕ) (read : name ≡ (slice_index_or all (n - 1) blank_row).name.now) (depth : ℕ) (depth_is : depth ≡ length (path_of rows n)) where
      whole : node_path d (get_or ns k 0) ≡ climb (n - 1) rows (row_at rows (n - 1)).parent ++ name ∷ []
      whole = path-is ∙ parts ∙ ap (λ m. climb (n - 1) rows (row_at rows (n - 1)).parent ++ m ∷ []) (sym (name-read all same name read))

      long : depth ≡ length (climb (n - 1) rows (row_at rows (n - 1)).parent) + 1
      long = omega (arith, depth_is, ap length parts, length-append (climb (n - 1) rows (row_at rows (n - 1)).parent) ((row_at rows (n - 1)).name.now ∷ []))

      pub next : IsNext (last_path bs) (built_lists bs).nodes depth name (node_path d (get_or ns k 0))
      next = made-next r are.standing k bs made within (node_path d (get_or ns k 0)) (at-path k below) (climb (n - 1) rows (row_at rows (n - 1)).parent) name whole depth long

      pub more-made : (new : List NodeData) (ps : List Property) (j : ℕ) → j ≡ k + 1 → defined_at (node_path d (get_or ns k 0)) ps ≡ held r.properties (node_path d (get_or ns k 0))
          → built_lists new ≡ with_last (take (depth - 1) (last_path bs) ++ name ∷ []) ps (built_lists bs) → last_path new ≡ take (depth - 1) (last_path bs) ++ name ∷ []
          → IsMade r j new
      more-made = made-more r are.standing k bs made within (node_path d (get_or ns k 0)) (at-path k below) (climb (n - 1) rows (row_at rows (n - 1)).parent) name whole depth long
