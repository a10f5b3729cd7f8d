-- The nodes of a blob in the order in which they stand: a node before all below it, and a child with all below it before the next
-- child (Devicetree Specification v0.4, section 5.4.2).
use Rattle.std.specs.Prelude.{◌≡◌, ℕ, List, [], ◌∷◌, ◌++◌, Option, None, Some, Result, IsOkAnd, Bool, false, ◌==◌, codes, if◌then◌else◌}
use Rattle.std.specs.List.{list_any, slice_split}
use Rattle.std.specs.Option.{option_map_or}
use Rattle.std.specs.Str.{bytes_eq}
use Rattle.dt_tree.specs.NodeData.{NodeData, Siblings, none, more, node_data}
use Rattle.dt_tree.specs.PathMap.{value_of}
use Rattle.dt_tree.specs.Phandle.{phandle_of}
use Rattle.dt_blob.specs.Token.{Token, begin_node, end_node, end, property_tokens, sibling_tokens}
use Rattle.dt_patch.specs.declared.view.error.ViewError.{ViewError}
use Rattle.dt_patch.specs.declared.view.nodes.NodeOffset.{NodeOffset}
use Rattle.dt_patch.specs.declared.view.view.View.{View}
use Rattle.dt_patch.specs.View.Standing.{Ahead}

-- nodes side by side, with all below them
abbrev pub all_of : Siblings → List NodeData
all_of none = []
all_of (more name ps children rest) = node_data name ps children ∷ (all_of children ++ all_of rest)

-- a tree's nodes
abbrev pub in_order : NodeData → List NodeData
in_order root = root ∷ all_of root.children

-- what stands behind a node's properties: level by level the nodes that come, and the end of their parent
abbrev pub upward : List Siblings → List Token
upward [] = end ∷ []
upward (f ∷ fs) = sibling_tokens f ++ end_node ∷ upward fs

abbrev pub nodes_left : List Siblings → List NodeData
nodes_left [] = []
nodes_left (f ∷ fs) = all_of f ++ nodes_left fs

-- the node stands there, and behind its beginning these come
abbrev pub StandsIn : View → ℕ → NodeData → List NodeData → Type 0
StandsIn view at node later =
    (fs : List Siblings) × Ahead view at (begin_node node.name ∷ (property_tokens node.properties ++ upward (node.children ∷ fs))) × (nodes_left (node.children ∷ fs) ≡ later)

-- where the first of these stands, with those behind it
abbrev pub IsNext : View → Option NodeOffset → List NodeData → Type 0
IsNext view None later = later ≡ []
IsNext view (Some place) later = (node : NodeData) × (others : List NodeData) × (later ≡ node ∷ others) × StandsIn view place.at node others

-- ---- what nodes are looked for by

abbrev pub has_phandle : ℕ → NodeData → Bool
has_phandle h node = option_map_or (λ g. g == h) (phandle_of node.properties) false

abbrev pub is_zero : ℕ → Bool
is_zero b = b == 0

-- one of the strings between zero bytes is this text
abbrev pub lists : List ℕ → List ℕ → Bool
lists text value = list_any (λ string. bytes_eq string text) (slice_split is_zero value)

-- the node's property `compatible` lists this text (section 2.3.1)
abbrev pub is_compatible : List ℕ → NodeData → Bool
is_compatible text node = option_map_or (lists text) (value_of node.properties (codes "compatible")) false

-- these from the first one on that passes a test
abbrev pub from_first : (NodeData → Bool) → List NodeData → List NodeData
from_first test [] = []
from_first test (node ∷ nodes) = if test node then node ∷ nodes else from_first test nodes

-- ---- what calls tell

-- the place of the first of these is told, or that there are none
abbrev pub TellsNext : View → Result (Option NodeOffset) ViewError → List NodeData → Type 0
TellsNext view answer later = IsOkAnd answer (λ place. IsNext view place later)
