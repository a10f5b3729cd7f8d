-- Properties in preorder.
use Rattle.std.specs.Prelude.{List}
use Rattle.dt_source.specs.TreeMeaning.Syntax.{Piece}
use Rattle.dt_source.specs.TreeMeaning.Edits.{Definition, definition}
use Rattle.dt_live.specs.declared.live_tree.NodeRow.{NodeRow}
use Rattle.dt_live.specs.Rows.{path_of}
use Rattle.dt_live.specs.declared.preorder.properties.NodeProperty.{NodeProperty}
use Rattle.dt_build.specs.Edit.Said.{Parts, pieces}

-- with its value read
abbrev pub read_property : List NodeRow → NodeProperty Parts → Definition (List Piece)
read_property rows x = definition (path_of rows x.node) x.name.now (pieces x.value)
