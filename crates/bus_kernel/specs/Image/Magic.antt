-- Bytes by which a file tells its kind.
use Rattle.std.specs.Prelude.{ℕ, nat_eq, Bool, List, drop}
use Rattle.std.specs.List.{starts_with}

-- these bytes stand at this offset
abbrev pub has_at : ℕ → List ℕ → List ℕ → Bool
has_at at magic image = starts_with nat_eq (drop at image) magic
