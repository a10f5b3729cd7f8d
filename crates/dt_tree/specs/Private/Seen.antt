-- A set of names that a loop has met.
use Rattle.std.specs.Prelude.{ℕ, Bool, not, List}
use Rattle.std.specs.List.{list_any, list_all}
use Rattle.std.specs.Str.{bytes_eq}
use Rattle.std.specs.BTreeSet.{BTreeSet}
use denote.Ref.{Bor}

abbrev pub Seen : Type 0
Seen = BTreeSet (Bor (List ℕ))

abbrev pub has_name : Seen → List ℕ → Bool
has_name s n = list_any (λ k. bytes_eq k.now n) s.keys

-- none of the names was met
abbrev pub are_fresh : Seen → List (List ℕ) → Bool
are_fresh s ns = list_all (λ n. not (has_name s n)) ns
