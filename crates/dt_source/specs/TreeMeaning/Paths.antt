-- The path of a node as the list of the names from below the root down to it (Devicetree Specification v0.4, section 2.2.3).
use Rattle.std.specs.Prelude.{ℕ, Bool, true, false, ◌&&◌, ◌||◌, not, List, [], ◌∷◌, Option, Some, None, if◌then◌else◌}
use Rattle.std.specs.Str.{bytes_eq}

abbrev pub Path : Type 0
Path = List (List ℕ)

abbrev pub same_path : Path → Path → Bool
same_path [] [] = true
same_path [] (y ∷ ys) = false
same_path (x ∷ xs) [] = false
same_path (x ∷ xs) (y ∷ ys) = bytes_eq x y && same_path xs ys

-- the second path is the first, or below it
abbrev pub is_within : Path → Path → Bool
is_within [] q = true
is_within (x ∷ xs) [] = false
is_within (x ∷ xs) (y ∷ ys) = bytes_eq x y && is_within xs ys

-- the second path is strictly below the first
abbrev pub is_below : Path → Path → Bool
is_below p q = is_within p q && not (same_path p q)

-- the path is one of these
abbrev pub is_listed : Path → List Path → Bool
is_listed p [] = false
is_listed p (q ∷ qs) = same_path p q || is_listed p qs

-- the name of the second path's node, where it is a child of the first's
abbrev pub name_below : Path → Path → Option (List ℕ)
name_below [] [] = None
name_below [] (n ∷ []) = Some n
name_below [] (n ∷ m ∷ ns) = None
name_below (x ∷ xs) [] = None
name_below (x ∷ xs) (y ∷ ys) = if bytes_eq x y then name_below xs ys else None
