-- What the calls that read or edit a placed tree answer (Devicetree Specification v0.4, section 6.3; where it is silent, dtc 1.6.1,
-- tried by hand): each is said of the tree that it shows, however its values are read.
use Rattle.std.specs.Prelude.{◌≡◌, ℕ, false, List, IsErrOf, Result, Ok}
use Rattle.dt_source.specs.TreeMeaning.DtcEdits.{DtcTree, made_node}
use Rattle.dt_source.specs.TreeMeaning.DtcStatements.{is_first}
use Rattle.dt_source.specs.TreeMeaning.Paths.{Path}
use Rattle.dt_source.specs.TreeMeaning.Statements.{Fault}
use Rattle.dt_source.specs.TreeMeaning.Syntax.{Piece}
use Rattle.dt_live.specs.declared.placed.error.PlaceError.{PlaceError}
use Rattle.dt_live.specs.declared.placed.error.StandError.{StandError}
use Rattle.dt_live.specs.declared.placed.error.StandError.TheVariants.{DuplicateLabel}
use Rattle.dt_live.specs.declared.placed.placed_tree.PlacedTree.{PlacedTree}
use Rattle.dt_live.specs.Placed.PlacedEdits.{Shows}
use Rattle.dt_live.specs.Placed.PlacedTrees.{dtc_tree}

-- this is so of the tree that it shows
abbrev pub OfItsTree : {V : Type 0} → PlacedTree V → (DtcTree → Type 0) → Type 0
OfItsTree {V} d IsSo = (read : V → List Piece) → IsSo (dtc_tree read d)

-- the one tree is the other, edited so
abbrev pub IsEditedBy : {V : Type 0} → (DtcTree → DtcTree) → PlacedTree V → PlacedTree V → Type 0
IsEditedBy {V} edit old new = (read : V → List Piece) → dtc_tree read new ≡ edit (dtc_tree read old)

-- the same of an edit that could be a fault, and isn't
abbrev pub IsEditedWell : {V : Type 0} → (DtcTree → Result DtcTree Fault) → PlacedTree V → PlacedTree V → Type 0
IsEditedWell {V} edit old new = (read : V → List Piece) → edit (dtc_tree read old) ≡ Ok (dtc_tree read new)

-- a call leaves the tree edited so, or has the fault of the edit
abbrev pub ShowsEdit : {V A : Type 0} → (DtcTree → Result DtcTree Fault) → PlacedTree V → PlacedTree V → Result A PlaceError → Type 0
ShowsEdit {V} edit old new result = (read : V → List Piece) → Shows (edit (dtc_tree read old)) (dtc_tree read new) result

-- the same of an edit with a value
abbrev pub ShowsValue : {V A : Type 0} → (List Piece → DtcTree → Result DtcTree Fault) → V → PlacedTree V → PlacedTree V → Result A PlaceError → Type 0
ShowsValue {V} edit value old new result =
    (read : V → List Piece) → Shows (edit (read value) (dtc_tree read old)) (dtc_tree read new) result

-- a node in a later body: it begins there, where it never had a place
abbrev pub made_later : Path → DtcTree → Result DtcTree Fault
made_later p t = made_node (is_first false p t) p t

-- what is so wherever a label of two nodes is refused
abbrev pub OnDuplicateLabel : {A : Type 0} → Result A StandError → Type 0 → Type 0
OnDuplicateLabel result IsSo = (at : ℕ) → IsErrOf result (DuplicateLabel at) → IsSo
