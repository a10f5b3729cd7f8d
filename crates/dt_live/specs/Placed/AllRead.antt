-- The tree that is left of a placed tree when all is read (Devicetree Specification v0.4, sections 6.3 and 6.4; where it is silent,
-- dtc 1.6.1, tried by hand).
use Rattle.std.specs.Prelude.{◌≡◌, List}
use Rattle.dt_source.specs.TreeMeaning.Syntax.{Piece}
use Rattle.dt_source.specs.TreeMeaning.Edits.{counted}
use Rattle.dt_source.specs.TreeMeaning.DtcStatements.{dtc_state}
use Rattle.dt_live.specs.Rows.{state_of}
use Rattle.dt_live.specs.declared.placed.placed_tree.PlacedTree.{PlacedTree}
use Rattle.dt_live.specs.declared.placed.shown.Shown.{Shown}
use Rattle.dt_live.specs.Placed.PlacedTrees.{dtc_tree}
use Rattle.dt_live.specs.Placed.Standing.{state_read}

-- it is shown, however values are read
abbrev pub ShowsTree : {V : Type 0} → PlacedTree V → Shown V → Type 0
ShowsTree {V} d s = (read : V → List Piece) → dtc_state (dtc_tree read d) ≡ counted d.fragments (state_read read (state_of s.live))
