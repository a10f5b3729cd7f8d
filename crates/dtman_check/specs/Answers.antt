-- What the checks of a tree answer (dtc's manual, Documentation/manual.txt, section 'Command-line arguments', -q: once, and warnings
-- aren't told; twice, and errors aren't, either).
use Rattle.std.specs.Prelude.{ℕ, ◌+◌, Bool, false, ◌&&◌, ◌||◌, ◌==◌, nat_lt, if◌then◌else◌}
use Rattle.std.specs.Prelude.{List, [], ◌∷◌, slice_index_or, take, Option, Some, None}
use Rattle.std.specs.Option.{option_map_or}
use Rattle.dt_tree.specs.NodeData.{NodeData}
use Rattle.dt_check.specs.Nodes.{PlacedData, tree_nodes}
use Rattle.dt_live.specs.declared.making.places.Places.{Places}
use Rattle.dtman_check.specs.declared.table.reference.Row.{Row}
use Rattle.dtman_check.specs.declared.table.selection.Least.{Least}
use Rattle.dtman_check.specs.declared.table.selection.Least.TheVariants.{Warning, Error}
use Rattle.dtman_check.specs.declared.table.selection.Level.{Level}
use Rattle.dtman_check.specs.Table.Finding.{FindingData}
use Rattle.dtman_check.specs.Table.Run.{Tells}
use Rattle.dtman_check.specs.Table.Selected.{SelectionData}

-- who is asked to say less has errors alone looked for
abbrev pub least_of : ℕ → Least
least_of quiet = if nat_lt quiet 1 then Warning else Error

-- whether what comes to this has a line
abbrev pub has_line : ℕ → Level → Bool
has_line quiet level = (level.warns && nat_lt quiet 1) || (level.fails && nat_lt quiet 2)

-- a node below the root that no text has, at this place: what a compiler adds of its own, behind all others
abbrev pub is_added : Places → ℕ → PlacedData → Bool
is_added p place node = slice_index_or p.nodes.items place 0 == 0 && option_map_or (λ above. above == 0) node.above false

-- how many of these nodes, the first of which has this place, stand before the first that is added
abbrev pub written_count : Places → ℕ → List PlacedData → ℕ
written_count p place [] = 0
written_count p place (n ∷ ns) = if is_added p place n then 0 else 1 + written_count p (place + 1) ns

-- the nodes that are looked at: of a source, those that its compiler didn't add
abbrev pub nodes_in : Option Places → NodeData → List PlacedData
nodes_in None root = tree_nodes root
nodes_in (Some p) root = take (written_count p 0 (tree_nodes root)) (tree_nodes root)

-- a run of the checks over the tree of this root, as its source has it where there is one, and whether an error stands
abbrev pub Judges : List Row → Option Places → NodeData → SelectionData → ℕ → Bool → Type 0
Judges known written root selection quiet failed =
    (findings : List FindingData)
    × Tells known (nodes_in written root) written selection (least_of quiet) findings failed
