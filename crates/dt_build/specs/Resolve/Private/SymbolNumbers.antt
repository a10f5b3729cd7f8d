-- Numbers for symbols when nodes went, by rows (Devicetree Specification v0.4, section 2.3.3).
use Rattle.std.specs.Prelude.{◌≡◌, ℕ, List, ◌++◌, map}
use Rattle.std.specs.List.{filter}
use Rattle.dt_source.specs.TreeMeaning.Phandles.{PathPhandle}
use Rattle.dt_source.specs.TreeMeaning.DtcPhandles.{number_before_last, numbers_of_symbols}
use Rattle.dt_live.specs.declared.live_tree.LiveTree.{LiveTree}
use Rattle.dt_live.specs.declared.live_tree.NodeRow.{NodeRow}
use Rattle.dt_live.specs.Rows.{is_standing, node_path}
use Rattle.dt_build.specs.Edit.Said.{Parts}
use Rattle.dt_build.specs.declared.resolve.node_phandles.NodePhandle.{NodePhandle}
use Rattle.dt_build.specs.Resolve.NodePhandles.{path_phandle_of}

-- the number before the last one
abbrev pub IsLastOf : List NodePhandle → ℕ → Type 0
IsLastOf xs n = (rows : List NodeRow) → n ≡ number_before_last (map (path_phandle_of rows) xs)

-- those of nodes that stand
abbrev pub standing_phandles : LiveTree Parts → List NodePhandle → List NodePhandle
standing_phandles d xs = filter (λ x. is_standing d x.node) xs

-- of the nodes that are left
abbrev pub left_numbers : LiveTree Parts → List NodePhandle → List PathPhandle
left_numbers d xs = map (path_phandle_of d.nodes.items) (standing_phandles d xs)

-- those that nodes get
abbrev pub symbol_numbers : LiveTree Parts → List NodePhandle → List NodePhandle → List ℕ → List PathPhandle
symbol_numbers d given of_cells nodes =
    numbers_of_symbols (left_numbers d (given ++ of_cells)) (map (path_phandle_of d.nodes.items) of_cells) (map (node_path d) nodes)

abbrev pub AreSymbolNumbers : LiveTree Parts → List NodePhandle → List NodePhandle → List ℕ → List NodePhandle → Type 0
AreSymbolNumbers d given of_cells nodes new = map (path_phandle_of d.nodes.items) new ≡ symbol_numbers d given of_cells nodes
