-- What is made of a draft.
use Rattle.std.specs.Prelude.{ℕ, Bool, true, false, not, ◌&&◌, List, [], ◌∷◌, ◌++◌, map}
use Rattle.std.specs.List.{filter}
use Rattle.dt_tree.specs.declared.property.Property.{Property}
use Rattle.dt_source.specs.TreeMeaning.Names.{symbols_name}
use Rattle.dt_source.specs.TreeMeaning.Paths.{Path}
use Rattle.dt_source.specs.TreeMeaning.Edits.{Definition, Label, labelled_at}
use Rattle.dt_source.specs.TreeMeaning.References.{Found, held}
use Rattle.dt_source.specs.TreeMeaning.Phandles.{PathPhandle}
use Rattle.dt_source.specs.TreeMeaning.Fixups.{Site, sites, fixups, local_fixups}
use Rattle.dt_source.specs.TreeMeaning.DtcPhandles.{asks_for_own}
use Rattle.dt_source.specs.TreeMeaning.Resolved.{Resolved, with_bytes, with_more, when, symbol, phandle_property}
use Rattle.dt_live.specs.Builder.Lists.{defined_at}
use Rattle.dt_live.specs.declared.live_tree.LabelRow.{LabelRow}
use Rattle.dt_live.specs.declared.live_tree.LiveTree.{LiveTree}
use Rattle.dt_live.specs.Rows.{node_path}
use Rattle.dt_build.specs.Edit.Said.{Parts, tree_of}
use Rattle.dt_build.specs.declared.draft.Draft.{Draft}
use Rattle.dt_build.specs.Resolve.Founds.{found_properties}
use Rattle.dt_build.specs.Resolve.Gathered.{targets_anew}
use Rattle.dt_build.specs.Resolve.NodePhandles.{path_phandle_of}

-- the values with their references found, in the order of the walk
abbrev pub founds : Draft → List (Definition (List Found))
founds p = found_properties (node_path p.live) p.in_preorder.properties.items p.targets.items

-- and those that fixups are made of: in dtc's language a number that its own node asks for is no fixup
abbrev pub is_fixed : Bool → Definition (List Found) → Bool
is_fixed asks e = not (asks && asks_for_own e)

abbrev pub fixed : Draft → List (Definition (List Found))
fixed p = filter (is_fixed p.asks) (found_properties (node_path p.live) p.in_preorder.properties.items (targets_anew p.targets.items p.anew))

abbrev pub given_phandles : Draft → List PathPhandle
given_phandles p = map (path_phandle_of p.live.nodes.items) p.given.items

abbrev pub new_phandles : Draft → List PathPhandle
new_phandles p = map (path_phandle_of p.live.nodes.items) p.new.items

-- those of them that get a property
abbrev pub added_phandles : Draft → List PathPhandle
added_phandles p = map (path_phandle_of p.live.nodes.items) p.added.items

abbrev pub all_phandles : Draft → List PathPhandle
all_phandles p = given_phandles p ++ new_phandles p

-- the properties with their bytes
abbrev pub plain_properties : Draft → List (Definition (List ℕ))
plain_properties p = map (with_bytes (all_phandles p)) (founds p)

-- and phandles behind them
abbrev pub made_properties : Draft → List (Definition (List ℕ))
made_properties p = plain_properties p ++ map phandle_property (added_phandles p)

-- those of the node at a path
abbrev pub own : Draft → Path → List (Definition (List ℕ))
own p q = held (made_properties p) q

-- the tree without symbols
abbrev pub plain_lists : Draft → Resolved
plain_lists p = record { nodes = (tree_of p.live).nodes; properties = made_properties p }

-- the labels' properties, and that of one label
abbrev pub as_symbols : List Property → List (Definition (List ℕ))
as_symbols ps = defined_at (symbols_name ∷ []) ps

abbrev pub symbol_at : LiveTree Parts → LabelRow → Definition (List ℕ)
symbol_at d row = symbol (labelled_at row.label.now (node_path d row.node))

-- In dtc's language their node is there also without a label, where one of the nodes ever had one.
abbrev pub bare_node : Bool → List Label → List Path
bare_node false ls = []
bare_node true [] = (symbols_name ∷ []) ∷ []
bare_node true (l ∷ ls) = []

abbrev pub with_nodes : List Path → Resolved → Resolved
with_nodes ps r = record { nodes = r.nodes ++ ps; properties = r.properties }

-- the tree with symbols, where they are wanted
abbrev pub symbol_lists : Bool → Draft → Resolved
symbol_lists symbols p =
    with_nodes (when symbols (bare_node p.labelled (tree_of p.live).labels)) (with_more (when symbols (map symbol (tree_of p.live).labels)) (plain_lists p))

-- the fixup sites in a plugin's values
abbrev pub made_sites : Draft → List Site
made_sites p = when p.plugin (sites (all_phandles p) (fixed p))

-- and with the fixups of a plugin
abbrev pub fixup_lists : Bool → Draft → Resolved
fixup_lists symbols p = with_more (fixups (made_sites p) []) (symbol_lists symbols p)

-- the tree, with the local fixups of a plugin
abbrev pub lists : Bool → Draft → Resolved
lists symbols p = with_more (local_fixups (made_sites p) []) (fixup_lists symbols p)
