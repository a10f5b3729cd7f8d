-- A table: rows in order of definition, and an index of the one that counts for each name of each node. Of several rows of one name
-- the last counts, and nothing stands at the others (dtc 1.6.1, tried by hand).
use Rattle.std.specs.Prelude.{◌≡◌, ◌⊎◌, ℕ, ◌<◌, true, List, ◌∷◌, ◌++◌, [], length, Some, None}
use Rattle.dt_live.specs.Index.{SetsRow, row_of}
use Rattle.dt_live.specs.Rows.{Found}
use Rattle.dt_live.specs.declared.placed.place.Place.{Place}
use Rattle.dt_live.specs.declared.placed.table.Table.{Table}
use Rattle.dt_live.specs.declared.placed.table.Entry.{Entry}
use Rattle.dt_live.specs.declared.placed.table.Entry.TheVariants.{Found as Met, New}
use Rattle.dt_live.specs.Placed.Rows.{place_at}

abbrev pub rows_in : {X : Type 0} → Table X → List (Place X)
rows_in t = t.rows.items

abbrev pub found_in : {X : Type 0} → Table X → Found
found_in t = row_of t.index

-- both rows are of one name of one node
abbrev pub HasKey : {X : Type 0} → List (Place X) → ℕ → ℕ → List ℕ → Type 0
HasKey rows i n k = ((place_at rows i).owner ≡ n) × ((place_at rows i).name.now ≡ k)

-- row j counts for its name, or row i does, which is behind it
abbrev pub IsBehind : {X : Type 0} → List (Place X) → ℕ → ℕ → Type 0
IsBehind rows j i = (j < i) × ((place_at rows j).removed ≡ true) × ((place_at rows i).again ≡ true)

pub record IsTable {X : Type 0} (rows : List (Place X)) (found : Found) : Type 0 where
  pub right : (n : ℕ) (k : List ℕ) (i : ℕ) → found n k ≡ Some i → (i < length rows) × HasKey rows i n k
  pub whole : (j : ℕ) → j < length rows → (i : ℕ) × (found (place_at rows j).owner (place_at rows j).name.now ≡ Some i) × ((j ≡ i) ⊎ IsBehind rows j i)
  pub again : (i : ℕ) → (place_at rows i).again ≡ true → (j : ℕ) × (j < i) × HasKey rows j (place_at rows i).owner (place_at rows i).name.now

-- the row of a name was there, or goes last
abbrev pub Enters : {X : Type 0} → Place X → Table X → Table X → Entry → Type 0
Enters r old new (Met i) = (found_in old r.owner r.name.now ≡ Some i) × (new.rows.items ≡ old.rows.items) × (found_in new ≡ found_in old)
Enters r old new (New i) =
    (found_in old r.owner r.name.now ≡ None) × (i ≡ length old.rows.items) × (new.rows.items ≡ old.rows.items ++ r ∷ []) × SetsRow r.owner r.name.now (Some i) old.index new.index

-- nothing stands at it any more
abbrev pub hidden : {X : Type 0} → Place X → Place X
hidden r = record r { removed = true }
