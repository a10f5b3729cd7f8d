-- What a reference names in a placed tree (Devicetree Specification v0.4, section 6.3; where it is silent, dtc 1.6.1, tried by hand).
use Rattle.std.specs.Prelude.{◌≡◌, ℕ, suc, Bool, true, false, List, length, map, Option, Some, None, MatchOption, if◌then◌else◌}
use Rattle.std.specs.List.{find, list_any}
use Rattle.std.specs.Option.{option_and_then}
use Rattle.dt_source.specs.TreeMeaning.Paths.{Path, is_listed}
use Rattle.dt_source.specs.TreeMeaning.Syntax.{Piece}
use Rattle.dt_source.specs.TreeMeaning.Edits.{definition, is_of}
use Rattle.dt_source.specs.TreeMeaning.Places.{what_stands}
use Rattle.dt_source.specs.TreeMeaning.BootProcessor.{first_below}
use Rattle.dt_source.specs.TreeMeaning.DtcEdits.{DtcTree, in_preorder, is_labelled, node_stands}
use Rattle.dt_source.specs.TreeMeaning.References.{preorder}
use Rattle.dt_source.specs.TreeMeaning.Resolved.{is_too_deep}
use Rattle.dt_live.specs.declared.placed.place.Place.{Place}
use Rattle.dt_live.specs.declared.placed.placed_tree.PlacedTree.{PlacedTree}
use Rattle.dt_live.specs.declared.placed.table.Table.{Table}
use Rattle.dt_live.specs.Placed.Rows.{holds, is_made, place_at}
use Rattle.dt_live.specs.Placed.Tables.{found_in, rows_in}
use Rattle.dt_live.specs.Placed.PlacedTrees.{node_path}
use Rattle.dt_live.specs.Placed.Shown.{first_standing}

-- the child of a name, where it was made and not removed
abbrev pub child_in : {X : Type 0} → Table X → ℕ → List ℕ → Option ℕ
child_in nodes n k = option_and_then (λ i. if is_made (rows_in nodes) (place_at (rows_in nodes) i) then Some (suc i) else None) (found_in nodes n k)

-- the node that stands at a path, none where none does
abbrev pub IsNodeAt : {V : Type 0} → PlacedTree V → Path → DtcTree → Option ℕ → Type 0
IsNodeAt d p t found = MatchOption found (node_stands p t ≡ false) (λ node. (node_stands p t ≡ true) × (p ≡ node_path d node))

-- the nodes that have a label
abbrev pub AreHolders : {V : Type 0} → List ℕ → PlacedTree V → DtcTree → List ℕ → Type 0
AreHolders l d t nodes = (p : Path) → is_labelled l t p ≡ is_listed p (map (node_path d) nodes)

-- the node that has a label, of several the first in preorder
abbrev pub IsFirstLabelled : {V : Type 0} → List ℕ → PlacedTree V → DtcTree → Option ℕ → Type 0
IsFirstLabelled l d t found = MatchOption found (find (is_labelled l t) (in_preorder t) ≡ None) (λ node. find (is_labelled l t) (in_preorder t) ≡ Some (node_path d node))

-- no node that stands has more than 64 names
abbrev pub IsShallow : {V : Type 0} → PlacedTree V → Type 0
IsShallow d = list_any is_too_deep (first_standing (rows_in d.nodes) (length (rows_in d.nodes))) ≡ false

-- the first of some nodes in preorder
abbrev pub IsFirstOf : {V : Type 0} → PlacedTree V → List ℕ → Option ℕ → Type 0
IsFirstOf d nodes found =
    let order = preorder (first_standing (rows_in d.nodes) (length (rows_in d.nodes))) in
    let is_one : Path → Bool = λ p. is_listed p (map (node_path d) nodes) in
    MatchOption found (find is_one order ≡ None) (λ node. find is_one order ≡ Some (node_path d node))

-- the first child that a node ever had, also where it was removed
abbrev pub IsFirstChild : {V : Type 0} → PlacedTree V → ℕ → DtcTree → Option ℕ → Type 0
IsFirstChild d n t found =
    let first = first_below (node_path d n) t.nodes in
    MatchOption found (first ≡ None) (λ child. first ≡ Some (record { what = node_path d child; stands = holds (rows_in d.nodes) child }))

-- what is at a row, where it was made since its node was
abbrev pub value_made : {U V : Type 0} → List (Place U) → Place V → Option V
value_made nodes r = if is_made nodes r then r.value else None

-- the value of a property that stands
abbrev pub IsValueOf : {V : Type 0} → (V → List Piece) → PlacedTree V → ℕ → List ℕ → DtcTree → Option V → Type 0
IsValueOf read d n name t found =
    let p = node_path d n in
    let its = find (is_of p name) (what_stands t.properties) in
    MatchOption found (its ≡ None) (λ v. its ≡ Some (definition p name (read v)))
