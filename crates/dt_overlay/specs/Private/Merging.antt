-- A fragment's part as rows of the overlay, and the base's nodes that they become (dt-object-internal, section 3).
use Rattle.std.specs.Prelude.{◌≡◌, ◌≤◌, ◌<◌, ℕ, Bool, suc, true, ◌&&◌, List, codes, is_some, length, map, nat_lt, option_map, slice_index_or, Option, IfOk, IfSome, Result, ok_or}
use Rattle.std.specs.List.{filter, list_any}
use Rattle.std.specs.Str.{bytes_eq}
use Rattle.dt_tree.specs.Steps.{then_do, fold}
use Rattle.dt_source.specs.TreeMeaning.MapOf.{value_in}
use Rattle.dt_source.specs.TreeMeaning.Paths.{Path, is_within}
use Rattle.dt_source.specs.TreeMeaning.Resolved.{Resolved, is_too_deep}
use Rattle.dt_live.specs.declared.live_tree.LiveTree.{LiveTree}
use Rattle.dt_live.specs.declared.live_tree.NodeRow.{NodeRow}
use Rattle.dt_live.specs.declared.live_tree.PropertyRow.{PropertyRow}
use Rattle.dt_live.specs.Rows.{IsKept, IsNode, is_standing, node_path, row_at, property_at}
use Rattle.dt_live.specs.Flattened.{Lent, lists}
use Rattle.dt_source.specs.OverlayMeaning.Applied.{clashes, merged, moved, moved_value, with_fragment, with_nodes, with_values}
use Rattle.dt_source.specs.OverlayMeaning.Shifted.{fragments}
use Rattle.dt_source.specs.OverlayMeaning.Fault.{Fault, NoTarget}
use Rattle.dt_overlay.specs.declared.fixup.error.OverlayError.{OverlayError}
use Rattle.dt_overlay.specs.declared.fixup.patched_overlay.PatchedOverlay.{PatchedOverlay}
use Rattle.dt_overlay.specs.Fixup.OverlayFault.{Leaves}
use Rattle.dt_overlay.specs.Fixup.PatchedOverlay.{patched_lists}
use Rattle.dt_overlay.specs.declared.fragments.Fragment.{Fragment}
use Rattle.dt_overlay.specs.declared.part.Part.{Part}

-- what stands below the `__overlay__` at path b, moved below the node at path t
abbrev pub part_below : Resolved → Path → Path → Resolved
part_below over b t = record {
  nodes = map (moved t) (filter (λ q. is_within b q && nat_lt 2 (length q)) over.nodes);
  properties = map (moved_value t) (filter (λ e. is_within b e.path) over.properties);
}

-- the nodes behind b, up to e, have parents among them
abbrev pub IsInside : List NodeRow → ℕ → ℕ → Type 0
IsInside rows b e = (k : ℕ) → b ≤ k → suc k < e → b ≤ (row_at rows k).parent

-- the nodes from b up to e are b and those below it
pub record IsPart (rows : List NodeRow) (b e : ℕ) : Type 0 where
  pub more : b < e
  pub known : e ≤ suc (length rows)
  pub inside : IsInside rows b e
  pub behind : (k : ℕ) → e ≡ suc k → k < length rows → (row_at rows k).parent < b

-- the row of the first property of node n or of one behind it
pub record IsFirst (rows : List (PropertyRow Lent)) (n i : ℕ) : Type 0 where
  pub known : i ≤ length rows
  pub before : (j : ℕ) → j < i → (property_at rows j).node < n
  pub behind : (j : ℕ) → i ≤ j → j < length rows → n ≤ (property_at rows j).node

-- the rows of a part of the overlay
pub record IsPartOf (over : LiveTree Lent) (p : Part) : Type 0 where
  pub known : IsNode over p.body
  pub top : length (node_path over p.body) ≡ 2
  pub nodes : IsPart over.nodes.items p.body p.end
  pub first : IsFirst over.properties.items p.body p.first
  pub last : IsFirst over.properties.items p.end p.last

-- all edits kept what stood there
abbrev pub AreKept : LiveTree Lent → LiveTree Lent → Type 0
AreKept old new = (p : Path) → IsKept p old new

-- a node of a live tree that stands at the path of the overlay's node n, moved below t
pub record IsBaseNode (over d : LiveTree Lent) (t : Path) (n base_node : ℕ) : Type 0 where
  pub known : IsNode d base_node
  pub stands : is_standing d base_node ≡ true
  pub path : node_path d base_node ≡ moved t (node_path over n)

-- the nodes from b up to e have their base nodes
abbrev pub AreBaseNodes : LiveTree Lent → LiveTree Lent → Path → ℕ → ℕ → List ℕ → Type 0
AreBaseNodes over d t b e base_nodes = (n : ℕ) → b ≤ n → n < e → IsBaseNode over d t n (slice_index_or base_nodes n 0)

-- a part merged, where it has a target
abbrev pub merged_at : Resolved → Path → Option Path → Resolved → Result Resolved Fault
merged_at over b target t = then_do (ok_or target NoTarget) (λ p. merged (part_below over b p) t)

-- a fragment whose rows are those of an overlay and of a live tree
pub record IsMergeable (over d : LiveTree Lent) (f : Fragment) : Type 0 where
  pub node : IsNode over f.node
  pub body : IsNode over f.body
  pub top : length (node_path over f.body) ≡ 2
  pub target : IfSome f.target (λ n. IsNode d n × (is_standing d n ≡ true))

-- rows of properties stand node by node
abbrev pub AreByNode : List (PropertyRow Lent) → Type 0
AreByNode rows = (i j : ℕ) → i ≤ j → j < length rows → (property_at rows i).node ≤ (property_at rows j).node

-- ---- a part by the base nodes of the overlay's nodes
-- the path of the base node of node n
abbrev pub base_path : LiveTree Lent → List ℕ → ℕ → Path
base_path d base_nodes n = node_path d (slice_index_or base_nodes n 0)

-- what stands below node b of the overlay, moved below its base node
abbrev pub part_at : PatchedOverlay → ℕ → List ℕ → LiveTree Lent → Resolved
part_at s b base_nodes d = part_below (patched_lists s) (node_path s.live b) (base_path d base_nodes b)

-- all nodes of a part have their base nodes
abbrev pub ArePartNodes : LiveTree Lent → LiveTree Lent → Part → List ℕ → Type 0
ArePartNodes over d p base_nodes = AreBaseNodes over d (base_path d base_nodes p.body) p.body p.end base_nodes

-- the base nodes of those from b on, up to the node that is answered, are noted
abbrev pub NotesBaseNodes : {A E : Type 0} → LiveTree Lent → ℕ → LiveTree Lent → List ℕ → LiveTree Lent → List ℕ → Result (ℕ × A) E → Type 0
NotesBaseNodes over b old old_nodes new new_nodes result =
    IfOk result (λ x. AreBaseNodes over new (base_path old old_nodes b) b x.0 new_nodes)

-- a live tree has the nodes of a part too, or the values of its properties
abbrev pub DefinesPart : PatchedOverlay → ℕ → List ℕ → LiveTree Lent → LiveTree Lent → Type 0
DefinesPart s b base_nodes old new = (lists new).nodes ≡ with_nodes (part_at s b base_nodes old).nodes (lists old).nodes

abbrev pub SetsPart : PatchedOverlay → ℕ → List ℕ → LiveTree Lent → LiveTree Lent → Type 0
SetsPart s b base_nodes old new = (lists new).properties ≡ with_values (part_at s b base_nodes old).properties (lists old).properties

-- a node of the part lies too deep
abbrev pub is_deep : Resolved → Bool
is_deep part = list_any is_too_deep part.nodes

-- the name is `phandle`, and node n has such a property
abbrev pub is_clash : LiveTree Lent → ℕ → List ℕ → Bool
is_clash d n name = bytes_eq name (codes "phandle") && is_some (value_in (lists d).properties (node_path d n) name)

-- a phandle of the part would stand over one that is there
abbrev pub has_clash : LiveTree Lent → Resolved → Bool
has_clash d part = list_any (clashes (lists d).properties) part.properties

-- ---- calls
-- what stands below node b of the overlay is merged into node n, or there is the fault of that
abbrev pub MergesPart : {A : Type 0} → PatchedOverlay → ℕ → ℕ → LiveTree Lent → LiveTree Lent → Result A OverlayError → Type 0
MergesPart s b n old new result =
    Leaves (merged (part_below (patched_lists s) (node_path s.live b) (node_path old n)) (lists old)) (lists new) result

-- and so is a fragment, where it has a target
abbrev pub MergesFragment : {A : Type 0} → PatchedOverlay → Fragment → LiveTree Lent → LiveTree Lent → Result A OverlayError → Type 0
MergesFragment s f old new result =
    Leaves (merged_at (patched_lists s) (node_path s.live f.body) (option_map (node_path old) f.target) (lists old)) (lists new) result

-- and all fragments, in order
abbrev pub MergesAll : {A : Type 0} → PatchedOverlay → LiveTree Lent → LiveTree Lent → Result A OverlayError → Type 0
MergesAll s old new result =
    Leaves (fold (with_fragment (lists old) (patched_lists s)) (fragments (patched_lists s)) (lists old)) (lists new) result
