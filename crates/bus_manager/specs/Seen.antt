-- The set of devices that a flight saw bound, as its words: a bit a device, 64 in a word, the lowest first.
use Rattle.std.specs.Prelude.{◌==◌, ◌/◌, ◌%◌, ℕ, Bool, List, slice_index_or}
use Rattle.std.specs.Int.{bit_at}

abbrev pub sees : List ℕ → ℕ → Bool
sees words d = bit_at (slice_index_or words (d / 64) 0) (d % 64) == 1
