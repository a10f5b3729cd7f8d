-- What a quick look at the names of a node's properties tells of checks that ask for names of these classes.
use Rattle.std.specs.Prelude.{◌≡◌, ℕ, List, [], Option, Some, drop}
use Rattle.dt_check.specs.Nodes.{PlacedData, here_of}
use Rattle.dt_live.specs.declared.making.places.Places.{Places}
use Rattle.dtman_check.specs.declared.table.check.Finds.{Finds}
use Rattle.dtman_check.specs.declared.table.looking.Classes.{Classes}
use Rattle.dtman_check.specs.Table.Found.{found_here, found_from}
use Rattle.dtman_check.specs.Table.Private.Classes.{classes_of}

-- none of them finds anything in this node
abbrev pub FindsNothing : PlacedData → Classes → Type 0
FindsNothing p classes =
    (check : ℕ) (finds : Finds) (nodes : List PlacedData) (written : Option Places) (place : ℕ)
    → classes_of finds ≡ Some classes → found_here check finds nodes written place (here_of nodes p) ≡ []

-- nor in those from one place up to another
abbrev pub Passes : List PlacedData → Classes → ℕ → ℕ → Type 0
Passes nodes classes from to =
    (check : ℕ) (finds : Finds) (all : List PlacedData) (written : Option Places)
    → classes_of finds ≡ Some classes
    → found_from check finds all written from (drop from nodes) ≡ found_from check finds all written to (drop to nodes)
