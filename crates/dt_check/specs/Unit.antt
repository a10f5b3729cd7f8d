-- A node's name: a base name and, behind an `@`, its unit address (Devicetree Specification v0.4, section 2.2.1). Unit addresses are
-- written in hex, in lower case, with no zeros in front (section 2.2.1.1, and the bindings of each bus).
use Rattle.std.specs.Prelude.{ℕ, ◌+◌, ◌-◌, ◌*◌, ◌^◌, Bool, false, ◌&&◌, ◌==◌, nat_le, nat_lt, position, if◌then◌else◌, List, [], ◌∷◌, take, drop, length, Option, Some, None, option_and_then}
use Rattle.std.specs.Option.{option_map_or}

abbrev pub is_at : ℕ → Bool
is_at b = b == 64

abbrev pub base_name : List ℕ → List ℕ
base_name name = option_map_or (λ at. take at name) (position is_at name) name

abbrev pub unit_address : List ℕ → List ℕ
unit_address name = option_map_or (λ at. drop (at + 1) name) (position is_at name) []

-- 0 to 9 and a to f
abbrev pub hex_digit : ℕ → Option ℕ
hex_digit b = if nat_le 48 b && nat_le b 57 then Some (b - 48) else (if nat_le 97 b && nat_le b 102 then Some (b - 97 + 10) else None)

-- a number of 64 bits by its digits, behind those that were read
abbrev pub hex_from : ℕ → List ℕ → Option ℕ
hex_from n [] = Some n
hex_from n (b ∷ bs) =
    option_and_then (λ d. if nat_lt (n * 16 + d) (2 ^ 64) then hex_from (n * 16 + d) bs else None) (hex_digit b)

-- the bytes are this number
abbrev pub is_hex_of : ℕ → List ℕ → Bool
is_hex_of n [] = false
is_hex_of n (b ∷ bs) =
    if b == 48 then (if length bs == 0 then n == 0 else false) else option_map_or (λ m. m == n) (hex_from 0 (b ∷ bs)) false
