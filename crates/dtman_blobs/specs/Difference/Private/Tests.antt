-- Whether values are the same as they are seen, as tests.
use Rattle.std.specs.Prelude.{ℕ, Bool, true, false, not, ◌&&◌, ◌||◌, List, [], ◌∷◌, Option, Some, None}
use Rattle.std.specs.Str.{bytes_eq}
use Rattle.dt_tree.specs.declared.property.Property.{Property}
use Rattle.dt_tree.specs.PathMap.{value_of}
use Rattle.dtman_blobs.specs.Difference.Named.{NamedNode}
use Rattle.dtman_blobs.specs.Difference.Seen.{Part, number, node, seen}
use Rattle.dtman_blobs.specs.Difference.SameBoard.{is_own_phandle}

abbrev pub same_part : Part → Part → Bool
same_part (number x) (number y) = bytes_eq x y
same_part (number x) (node y) = false
same_part (node x) (number y) = false
same_part (node x) (node y) = bytes_eq x y

abbrev pub same_parts : List Part → List Part → Bool
same_parts [] [] = true
same_parts [] (y ∷ ys) = false
same_parts (x ∷ xs) [] = false
same_parts (x ∷ xs) (y ∷ ys) = same_part x y && same_parts xs ys

-- the value of a property is that of the other tree, where it has one
abbrev pub is_same_value : (ℕ → Option NamedNode) → (ℕ → Option NamedNode) → Property → Option (List ℕ) → Bool
is_same_value named_by named_by' p None = false
is_same_value named_by named_by' p (Some value) = same_parts (seen named_by p.name p.value) (seen named_by' p.name value)

-- the property counts, and the other tree's node hasn't the same
abbrev pub is_alone : (ℕ → Option NamedNode) → (ℕ → Option NamedNode) → List Property → Property → Bool
is_alone named_by named_by' qs p = not (is_own_phandle p.name || is_same_value named_by named_by' p (value_of qs p.name))
