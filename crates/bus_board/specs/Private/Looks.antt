-- A list of looks after one look more.
use Rattle.std.specs.Prelude.{◌≡◌, ◌≢◌, ◌==◌, ℕ, Bool, if◌then◌else◌, List, map, Option, Some, slice_get}

abbrev pub noted : ℕ → Bool → ℕ × Option Bool → ℕ × Option Bool
noted s b x = if x.0 == s then (x.0, Some b) else x

abbrev pub noted_looks : ℕ → Bool → List (ℕ × Option Bool) → List (ℕ × Option Bool)
noted_looks s b xs = map (noted s b) xs

-- the supplier has this place in the list, and no other
abbrev pub IsOnlyAt : List (ℕ × Option Bool) → ℕ → ℕ → Type 0
IsOnlyAt xs place s = ((last : Option Bool) × (slice_get xs place ≡ Some (s, last))) × ((i : ℕ) (x : ℕ × Option Bool) → slice_get xs i ≡ Some x → x.0 ≡ s → i ≡ place)

-- none of these is at the supplier
abbrev pub HasNone : List (ℕ × Option Bool) → ℕ → Type 0
HasNone xs s = (i : ℕ) (x : ℕ × Option Bool) → slice_get xs i ≡ Some x → x.0 ≢ s

-- this was found of the supplier; the supplier has this place
abbrev pub IsFoundOf : List (ℕ × Option Bool) → ℕ → Option Bool → Type 0
IsFoundOf xs s found = (i : ℕ) × (slice_get xs i ≡ Some (s, found))

abbrev pub IsPlaceOf : List (ℕ × Option Bool) → ℕ → ℕ → Type 0
IsPlaceOf xs s place = (found : Option Bool) × (slice_get xs place ≡ Some (s, found))
