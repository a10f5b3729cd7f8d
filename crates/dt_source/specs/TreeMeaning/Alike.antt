-- Where the two languages mean the same: nothing is deleted, and both take the source (Devicetree Specification v0.4, section 6.3).
use Rattle.std.specs.Prelude.{◌≡◌, Bool, true, false, ◌||◌, List, Ok}
use Rattle.std.specs.List.{list_any}
use Rattle.dt_source.specs.TreeMeaning.Syntax.{Piece, Entry, Defines, Undefines, Child, Removes, Body, Done, Then, Edit, Rooted, Extends, Deletes, Omits, Meaning}
use Rattle.dt_source.specs.TreeMeaning.Edits.{State}
use Rattle.dt_source.specs.TreeMeaning.Statements.{edited}
use Rattle.dt_source.specs.TreeMeaning.DtcEdits.{DtcTree}
use Rattle.dt_source.specs.TreeMeaning.DtcStatements.{dtc_edited, dtc_state}

-- ---- something is deleted
abbrev mutual
  pub entry_deletes : Entry (List Piece) → Bool
  entry_deletes (Defines n v) = false
  entry_deletes (Undefines n) = true
  entry_deletes (Child omitted ls n body) = body_deletes body
  entry_deletes (Removes n) = true

  pub body_deletes : Body (List Piece) → Bool
  body_deletes Done = false
  body_deletes (Then e others) = entry_deletes e || body_deletes others

abbrev pub edit_deletes : Edit → Bool
edit_deletes (Rooted body) = body_deletes body
edit_deletes (Extends ls target body) = body_deletes body
edit_deletes (Deletes target) = true
edit_deletes (Omits target) = false

-- ---- one tree
-- the same nodes and properties, in the same order of definition, and so the same path map
pub record IsSameTree (s u : State (List Piece)) : Type 0 where
  pub nodes : s.nodes ≡ u.nodes
  pub properties : s.properties ≡ u.properties

-- A source that both languages take, which is no plugin and deletes nothing, has one tree in both: the profile's own refusals are a
-- name twice in a body and a label that moves.
abbrev pub AreAlike : Meaning → DtcTree → State (List Piece) → Type 0
AreAlike m t s = m.plugin ≡ false → list_any edit_deletes m.items ≡ false → edited m ≡ Ok s → dtc_edited m ≡ Ok t → IsSameTree (dtc_state t) s
