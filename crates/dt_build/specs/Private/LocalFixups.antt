-- A plugin's local fixups, as properties of copies of its nodes (dt-object-internal, section 2).
use Rattle.std.specs.Prelude.{◌≡◌, ◌≤◌, ◌<◌, ◌+◌, ◌==◌, ◌||◌, ℕ, Bool, true, false, List, [], ◌∷◌, ◌++◌, length, map, take, slice_index_or, All}
use Rattle.std.specs.List.{filter, flat_map, list_any}
use Rattle.dt_source.specs.TreeMeaning.Names.{local_fixups_name}
use Rattle.dt_source.specs.TreeMeaning.Paths.{Path, is_listed}
use Rattle.dt_source.specs.TreeMeaning.Edits.{Definition, definition}
use Rattle.dt_source.specs.TreeMeaning.Fixups.{local_fixups}
use Rattle.dt_source.specs.TreeMeaning.Phandles.{new_ones}
use Rattle.dt_source.specs.TreeMeaning.References.{held, preorder}
use Rattle.dt_source.specs.TreeMeaning.Resolved.{Resolved, fronts}
use Rattle.dt_live.specs.Rows.{IsNode, is_standing, node_path}
use Rattle.dt_build.specs.declared.draft.Draft.{Draft}
use Rattle.dt_tree.specs.declared.property.Property.{Property}
use Rattle.dt_tree.specs.NodeData.{NodeData}
use Rattle.dt_live.specs.Builder.Lists.{defined_at}
use Rattle.dt_live.specs.Builder.Builders.{built_lists, last_path}
use Rattle.dt_live.specs.Builder.Standing.{walked}
use Rattle.dt_build.specs.Edit.Said.{tree_of}
use Rattle.dt_build.specs.Private.NodePhandles.{path_at}
use Rattle.dt_build.specs.Private.FixupSites.{key_at, site_of}
use Rattle.dt_build.specs.Private.Made.{fixup_lists, made_sites}
use Rattle.dt_build.specs.Private.Ready.{IsReady}
use Rattle.dt_build.specs.declared.fixup_sites.FixupSite.{FixupSite}
use Rattle.dt_build.specs.declared.local_properties.LocalFixup.{LocalFixup}

-- the path of a node's local fixups
abbrev pub local_path : Path → Path
local_path q = local_fixups_name ∷ q

-- the properties of local fixups
abbrev pub local_definitions : Draft → List LocalFixup → List (Definition (List ℕ))
local_definitions p [] = []
local_definitions p (x ∷ xs) = definition (local_path (key_at p x.property).path) (key_at p x.property).name x.cells.items ∷ local_definitions p xs

-- the places of theirs
abbrev pub places : List LocalFixup → List ℕ
places xs = map (λ x. x.property) xs

-- places in order, no two the same, all below n
abbrev pub AreBelow : ℕ → List ℕ → Type 0
AreBelow n [] = Unit {0}
AreBelow n (i ∷ is) = (i < n) × All (λ j. i < j) is × AreBelow n is

abbrev pub ends_with : ℕ → List ℕ → Bool
ends_with n [] = false
ends_with n (i ∷ []) = i == n
ends_with n (i ∷ j ∷ js) = ends_with n (j ∷ js)

-- they are those of properties
abbrev pub ArePlaced : Draft → List LocalFixup → Type 0
ArePlaced p xs = All (λ x. x.property < length p.in_preorder.properties.items) xs

-- a site is put among them, where its phandle is of the source's own
abbrev pub PutsLocal : FixupSite → List LocalFixup → List LocalFixup → Type 0
PutsLocal s old new =
    (p : Draft) → IsReady p → s.property < length p.in_preorder.properties.items → local_definitions p new ≡ local_fixups (site_of p s ∷ []) (local_definitions p old)

-- a node that stands
pub record IsAtNode (p : Draft) (n : ℕ) : Type 0 where
  pub known : IsNode p.live n
  pub there : is_standing p.live n ≡ true

-- ---- the nodes of the local fixups
abbrev pub all_local : Draft → List (Definition (List ℕ))
all_local p = local_fixups (made_sites p) []

-- a node and all above it but the root are marked besides others
abbrev pub MarksNode : Draft → ℕ → List Bool → List Bool → Type 0
MarksNode p n old new = (k : ℕ) → is_standing p.live k ≡ true
    → slice_index_or new k false ≡ (slice_index_or old k false || is_listed (node_path p.live k) (fronts (node_path p.live n)))

-- the nodes of some local fixups and all above them but the root are marked
abbrev pub MarksNodes : Draft → List LocalFixup → List Bool → Type 0
MarksNodes p xs ms = (k : ℕ) → is_standing p.live k ≡ true
    → slice_index_or ms k false ≡ list_any (λ x. is_listed (node_path p.live k) (fronts (key_at p x.property).path)) xs

-- each node has the properties of its own of some local fixups
abbrev pub ListsNodes : Draft → List LocalFixup → List (List Property) → Type 0
ListsNodes p xs ls = (k : ℕ) → is_standing p.live k ≡ true
    → defined_at (local_path (node_path p.live k)) (slice_index_or ls k []) ≡ held (local_definitions p xs) (local_path (node_path p.live k))

-- the node at a path has local fixups
abbrev pub has_local : Draft → Path → Bool
has_local p q = is_listed (local_path q) (new_ones [] (flat_map (λ e. fronts e.path) (all_local p)))

-- those of the first nodes in the order of the walk that have one
abbrev pub first_local : Draft → ℕ → List Path
first_local p k = filter (has_local p) (take k (preorder (tree_of p.live).nodes))

-- the nodes with the local fixups of some behind all others
abbrev pub nodes_with : Bool → Draft → List Path → List Path
nodes_with symbols p qs = (walked (fixup_lists symbols p)).nodes ++ map local_path qs

abbrev pub with_locals : Bool → Draft → List Path → Resolved
with_locals symbols p qs = record {
  nodes = nodes_with symbols p qs;
  properties = (walked (fixup_lists symbols p)).properties ++ flat_map (λ q. held (all_local p) (local_path q)) qs;
}

-- the tree in the making has the local fixups of the first k nodes
pub record AreMadeTo (symbols : Bool) (p : Draft) (k : ℕ) (bs : List NodeData) : Type 0 where
  pub made : built_lists bs ≡ with_locals symbols p (first_local p k)
  pub last_node : last_path bs ≡ slice_index_or ([] ∷ nodes_with symbols p (first_local p k)) (length (nodes_with symbols p (first_local p k))) []

-- whether each node but the root, or one below it, has local fixups
pub record AreMarks (p : Draft) (ms : List Bool) : Type 0 where
  pub count : length ms ≡ length p.live.nodes.items + 1
  pub marks : (n : ℕ) → 1 ≤ length (node_path p.live n) → is_standing p.live n ≡ true → slice_index_or ms n false ≡ has_local p (node_path p.live n)

-- the properties of the local fixups of the k-th node in preorder and of all behind it
pub record AreListsFrom (k : ℕ) (p : Draft) (ls : List (List Property)) : Type 0 where
  pub count : length ls ≡ length p.live.nodes.items + 1
  pub lists : (j : ℕ) → k ≤ j → j < length p.in_preorder.nodes.items
      → defined_at (local_path (path_at p j)) (slice_index_or ls (slice_index_or p.in_preorder.nodes.items j 0) []) ≡ held (all_local p) (local_path (path_at p j))
