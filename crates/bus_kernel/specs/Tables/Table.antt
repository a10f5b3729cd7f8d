-- What a table says.
use Rattle.std.specs.Prelude.{ℕ, List, map}
use Rattle.bus_kernel.specs.declared.tables.table.Table.{Table}

-- the strings of each table
abbrev pub compatibles_of : List Table → List (List (List ℕ))
compatibles_of tables = map (λ t. map (λ s. s.now) t.compatibles.items) tables
