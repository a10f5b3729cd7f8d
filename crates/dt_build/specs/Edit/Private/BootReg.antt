-- The `reg` of the first row below /cpus (Devicetree Specification v0.4, section 3.8; which one, by dtc 1.6.1, tried by hand).
use Rattle.std.specs.Prelude.{◌≡◌, ℕ, List, Option, Some, None, MatchOption, codes, if◌then◌else◌}
use Rattle.std.specs.List.{find}
use Rattle.std.specs.Option.{option_and_then}
use Rattle.dt_source.specs.TreeMeaning.Paths.{Path}
use Rattle.dt_source.specs.TreeMeaning.Syntax.{Piece}
use Rattle.dt_source.specs.TreeMeaning.Edits.{Definition, is_of}
use Rattle.dt_source.specs.TreeMeaning.Places.{Row, what_stands}
use Rattle.dt_source.specs.TreeMeaning.BootProcessor.{cpus, first_below}
use Rattle.dt_source.specs.TreeMeaning.DtcEdits.{DtcTree, node_stands}
use Rattle.dt_live.specs.declared.placed.placed_tree.PlacedTree.{PlacedTree}
use Rattle.dt_live.specs.Placed.PlacedTrees.{node_path}
use Rattle.dt_live.specs.Placed.Rows.{holds}
use Rattle.dt_live.specs.Placed.Tables.{rows_in}
use Rattle.dt_build.specs.Edit.Said.{Parts, pieces}

-- a call gives the value, or there is none
abbrev pub Gets : Option (List Piece) → Option Parts → Type 0
Gets meant result = MatchOption result (meant ≡ None) (λ v. meant ≡ Some (pieces v))

abbrev pub value_in : Definition (List Piece) → Option (List Piece)
value_in e = Some e.value

-- the value of a row's `reg`; what was removed has none
abbrev pub reg_at : DtcTree → Row Path → Option (List Piece)
reg_at t r = if r.stands then option_and_then value_in (find (is_of r.what (codes "reg")) (what_stands t.properties)) else None

abbrev pub boot_reg : DtcTree → Option (List Piece)
boot_reg t = if node_stands cpus t then option_and_then (reg_at t) (first_below cpus t.nodes) else None

-- the row of a node
abbrev pub row_of : PlacedTree Parts → ℕ → Row Path
row_of d n = record { what = node_path d n; stands = holds (rows_in d.nodes) n }
