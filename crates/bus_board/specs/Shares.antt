-- How much of a board is a seat's. The first seat has the whole; a share is halved where a seat is made of another, and two are
-- put together where one is given back.
use Rattle.std.specs.Prelude.{◌≡◌, ℕ, suc, ◌+◌, ◌-◌, ◌*◌, ◌^◌, max}
use Rattle.bus_board.specs.declared.view.Share.{Share}

abbrev pub whole : Share
whole = record { parts = 1; halvings = 0 }

abbrev pub nothing : Share
nothing = record { parts = 0; halvings = 0 }

abbrev pub half : Share → Share
half s = record { parts = s.parts; halvings = suc s.halvings }

-- how many parts it has where the whole is halved n times
abbrev pub parts_at : ℕ → Share → ℕ
parts_at n s = s.parts * 2 ^ (n - s.halvings)

abbrev pub added_at : ℕ → Share → Share → Share
added_at n s t = record { parts = parts_at n s + parts_at n t; halvings = n }

abbrev pub together : Share → Share → Share
together s t = added_at (max s.halvings t.halvings) s t

-- it has all parts
abbrev pub IsWhole : Share → Type 0
IsWhole s = s.parts ≡ 2 ^ s.halvings
