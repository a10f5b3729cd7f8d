-- Entries of tables: struct of_device_id (Linux: include/linux/mod_devicetable.h), a name and a type of 32 bytes each, a compatible of
-- 128 bytes, and a pointer.
use Rattle.std.specs.Prelude.{ℕ, ◌==◌, nat_le, nat_lt, Bool, ◌&&◌, List, length, take, drop, Option, Some, None, if◌then◌else◌}
use Rattle.std.specs.List.{list_all, position}

-- a printing character of ASCII but for the space
abbrev pub is_printable : ℕ → Bool
is_printable b = nat_le 33 b && nat_le b 126

-- characters that a compatible string may have (Devicetree Specification v0.4, section 2.3.1)
abbrev pub is_text : List ℕ → Bool
is_text bytes = list_all is_printable bytes

abbrev pub is_zero : ℕ → Bool
is_zero b = b == 0

abbrev pub are_zero : List ℕ → Bool
are_zero bytes = list_all is_zero bytes

-- what stands before a field's first zero byte, where that is a string and nothing but zero bytes follow
abbrev pub string_before : List ℕ → Option ℕ → Option (List ℕ)
string_before field None = None
string_before field (Some end) =
    if nat_lt 0 end && is_text (take end field) && are_zero (drop end field) then Some (take end field) else None

-- the string that an array of characters holds, filled up with zero bytes
abbrev pub string_in : List ℕ → Option (List ℕ)
string_in field = string_before field (position is_zero field)

-- the string of an entry that asks for it alone: its name and its type are empty
abbrev pub entry_string : List ℕ → Option (List ℕ)
entry_string bytes = if nat_le 192 (length bytes) && are_zero (take 64 bytes) then string_in (take 128 (drop 64 bytes)) else None

-- the entry that ends a table
abbrev pub is_empty_entry : List ℕ → Bool
is_empty_entry bytes = nat_le 192 (length bytes) && are_zero (take 192 bytes)
