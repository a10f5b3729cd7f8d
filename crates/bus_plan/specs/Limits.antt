-- The limits of a plan.
use Rattle.std.specs.Prelude.{ℕ}

-- the most devices of a plan
abbrev pub most_devices : ℕ
most_devices = 4096
