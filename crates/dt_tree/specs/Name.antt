-- What a name of a node or of a property is: Devicetree Specification v0.4, sections 2.2.1 and 2.2.4.1.
-- One set of characters serves both, and a name has at most 255 of them.
use Rattle.std.specs.Prelude.{ℕ, Bool, ◌&&◌, ◌||◌, nat_le, nat_lt, ◌==◌, if◌then◌else◌, false, List, length}
use Rattle.std.specs.List.{list_all}
use Rattle.dt_tree.specs.Limits.{name_limit}

-- letters, digits and `, . _ + * # ? @ -`
abbrev pub is_name_byte : ℕ → Bool
is_name_byte b =
    (nat_le 97 b && nat_le b 122) || (nat_le 65 b && nat_le b 90) || (nat_le 48 b && nat_le b 57)
    || b == 44 || b == 46 || b == 95 || b == 43 || b == 42 || b == 35 || b == 63 || b == 64 || b == 45

-- 1 to 255 bytes that can stand in a name
abbrev pub is_name : List ℕ → Bool
is_name bytes = if length bytes == 0 then false else (if nat_lt name_limit (length bytes) then false else list_all is_name_byte bytes)

abbrev pub are_names : List (List ℕ) → Bool
are_names names = list_all is_name names
