-- A quick look at names: each has one of 128 classes, by its length, its ends and a byte between them.
use Rattle.std.specs.Prelude.{◌≡◌, ℕ, ◌+◌, ◌-◌, ◌*◌, ◌/◌, ◌%◌, ◌==◌, Bool, true, false, if◌then◌else◌, List, length, slice_index, slice_index_or, All}
use Rattle.dt_tree.specs.declared.property.Property.{Property}

abbrev pub class_of : List ℕ → ℕ
class_of name =
    if length name == 0 then 0
    else (length name % 128 + slice_index name 0 + 3 * slice_index name (length name / 3) + 5 * slice_index name (length name - 1)) % 128

-- the class of a name is among these
abbrev pub is_marked : List Bool → List ℕ → Bool
is_marked classes name = slice_index_or classes (class_of name) false

-- those of the properties' names are
pub record AreMarked (properties : List Property) (classes : List Bool) : Type 0 where
  pub seen : All (λ p. is_marked classes p.name ≡ true) properties
  pub room : length classes ≡ 128
