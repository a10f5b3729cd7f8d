-- What the steps do that enter rows in a placed tree, choose nodes of it and mark them (Devicetree Specification v0.4, section 6.3;
-- where it is silent, dtc 1.6.1, tried by hand).
use Rattle.std.specs.Prelude.{ℕ, Bool, true, false, List, [], ◌∷◌, ◌++◌, Option, Some, length, slice_set}
use Rattle.std.specs.Borrow.{Bor}
use Rattle.dt_source.specs.TreeMeaning.Paths.{Path}
use Rattle.dt_live.specs.declared.live_tree.LiveTree.{LiveTree}
use Rattle.dt_live.specs.declared.placed.place.Place.{Place}
use Rattle.dt_live.specs.declared.placed.shown.Shown.{Shown}
use Rattle.dt_live.specs.declared.placed.table.Table.{Table}
use Rattle.dt_live.specs.Index.{SetsRow}
use Rattle.dt_live.specs.Placed.Rows.{place_at}
use Rattle.dt_live.specs.Placed.Shown.{HasNodes}
use Rattle.dt_live.specs.Placed.Standing.{AreMarked, or_at}
use Rattle.dt_live.specs.Placed.Tables.{hidden, rows_in}

-- ---- rows
-- the first row of a name
abbrev pub first_place : {X : Type 0} → ℕ → Bor (List ℕ) → Option X → ℕ → Place X
first_place owner name value made = record { owner = owner; name = name; value = value; made = made; removed = false; again = false }

-- a second one of the same name
abbrev pub place_again : {X : Type 0} → Place X → Option X → ℕ → Place X
place_again r value made = record r { value = value; made = made; removed = false; again = true }

-- nothing stands at the row any more, and the second one of its name goes last
abbrev pub renewed : {X : Type 0} → List (Place X) → ℕ → Option X → ℕ → List (Place X)
renewed rows i value made = slice_set rows i (hidden (place_at rows i)) ++ place_again (place_at rows i) value made ∷ []

-- the row that goes last counts for the name of this one
abbrev pub LastCountsFor : {X : Type 0} → ℕ → Table X → Table X → Type 0
LastCountsFor i old new =
    SetsRow (place_at (rows_in old) i).owner (place_at (rows_in old) i).name.now (Some (length (rows_in old))) old.index new.index

-- ---- nodes
-- one node more is chosen, behind those that were
abbrev pub ChoosesToo : {X : Type 0} → List (Place X) → ℕ → Shown ℕ → Shown ℕ → Type 0
ChoosesToo nodes node old new = (chosen : List ℕ) → HasNodes nodes chosen old → HasNodes nodes (chosen ++ node ∷ []) new

-- one path more is marked, beside those that were
abbrev pub MarksToo : {W : Type 0} → Path → LiveTree W → List Bool → List Bool → Type 0
MarksToo path d old new = (test : Path → Bool) → AreMarked test d old → AreMarked (or_at path test) d new
