-- How many begins a core has. The number is this project's: each begin uses up two of 1,000,000 events, its own and the
-- one that ends its flight.
use Rattle.std.specs.Prelude.{ℕ}

abbrev pub begin_limit : ℕ
begin_limit = 500000
