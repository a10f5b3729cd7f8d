-- Words on lists of devices.
use Rattle.std.specs.Prelude.{◌≡◌, ◌==◌, ℕ, ◌+◌, if◌then◌else◌, List, [], ◌∷◌, Some, slice_get}

-- the device stands in the list
abbrev pub Has : List ℕ → ℕ → Type 0
Has xs d = (i : ℕ) × (slice_get xs i ≡ Some d)

-- how often it stands there
abbrev pub times : ℕ → List ℕ → ℕ
times d [] = 0
times d (x ∷ xs) = (if x == d then 1 else 0) + times d xs

-- the device and the word that it was claimed from, or tried
abbrev pub Among : List (ℕ × ℕ) → ℕ → ℕ → Type 0
Among xs d w = (i : ℕ) × (slice_get xs i ≡ Some (d, w))

-- how often it stands there with this word
abbrev pub pairs : ℕ → ℕ → List (ℕ × ℕ) → ℕ
pairs d w [] = 0
pairs d w (x ∷ xs) = (if x.0 == d then (if x.1 == w then 1 else 0) else 0) + pairs d w xs

-- a sum over a list
abbrev pub total : {A : Type 0} → (A → ℕ) → List A → ℕ
total f [] = 0
total f (x ∷ xs) = f x + total f xs
