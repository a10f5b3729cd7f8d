-- The tree that a live tree shows, with its values as the source says them.
use Rattle.std.specs.Prelude.{List, map}
use denote.Ref.{Bor}
use Rattle.dt_source.specs.declared.tree.Value.{Value}
use Rattle.dt_source.specs.Tree.{part_view}
use Rattle.dt_source.specs.TreeMeaning.Syntax.{Piece}
use Rattle.dt_source.specs.TreeMeaning.Edits.{State, Definition, definition}
use Rattle.dt_live.specs.declared.live_tree.LiveTree.{LiveTree}
use Rattle.dt_live.specs.Rows.{state_of}

-- the value of a property as the text has it
abbrev pub Parts : Type 0
Parts = Bor Value

abbrev pub pieces : Parts → List Piece
pieces v = map part_view v.now.parts.items

-- a state whose values are read
abbrev pub read_definition : Definition Parts → Definition (List Piece)
read_definition e = definition e.path e.name (pieces e.value)

abbrev pub read : State Parts → State (List Piece)
read s = record { nodes = s.nodes; properties = map read_definition s.properties; labels = s.labels; fragments = s.fragments }

-- the tree that a live tree shows
abbrev pub tree_of : LiveTree Parts → State (List Piece)
tree_of d = read (state_of d)
