-- What is left of a line while its fields are cut.
use Rattle.std.specs.Prelude.{◌≡◌, ℕ, ◌<◌, false, List, length, slice_index}
use Rattle.bus_plan.specs.Lines.{is_blank}

-- no blank stands first
abbrev pub BeginsFilled : List ℕ → Type 0
BeginsFilled rest = 0 < length rest → is_blank (slice_index rest 0) ≡ false
