-- What holds of the fields of a set of devices: each member stands in the place that is kept of it, and each place that
-- is kept is a member's. No public clause cites it.
use Rattle.std.specs.Prelude.{◌≡◌, ◌<◌, ◌≤◌, ◌+◌, ℕ, List, Option, Some, None, length, slice_index_or, is_none, count_by}

abbrev pub place_of : List (Option ℕ) → ℕ → Option ℕ
place_of places d = slice_index_or places d None

abbrev pub member_at : List ℕ → ℕ → ℕ
member_at members p = slice_index_or members p 0

pub record IsPlaced (members : List ℕ) (places : List (Option ℕ)) (size : ℕ) : Type 0 where
  pub placed : (p : ℕ) → p < length members → place_of places (member_at members p) ≡ Some p
  pub kept : (d p : ℕ) → place_of places d ≡ Some p → p < length members
  pub found : (d p : ℕ) → place_of places d ≡ Some p → member_at members p ≡ d
  pub others : length members + count_by is_none places ≡ length places
  pub room : length places ≤ size
