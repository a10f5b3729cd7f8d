-- Numbers and texts in a property's value (Devicetree Specification v0.4, section 2.2.4).
use Rattle.std.specs.Prelude.{ℕ, zero, suc, ◌+◌, ◌*◌, ◌/◌, ◌==◌, List, length, take, drop, Option, Some, None, nat_lt, position, if◌then◌else◌, option_and_then}
use Rattle.std.specs.Int.{from_be_bytes, w32}
use Rattle.std.specs.Option.{option_map}

-- the cell at a place, counted in cells
abbrev pub number_in : List ℕ → ℕ → Option ℕ
number_in value place = if nat_lt place (length value / 4) then Some (from_be_bytes w32 (take 4 (drop (4 * place) value))) else None

-- two cells are one number, the higher one first
abbrev pub double_cell_in : List ℕ → ℕ → Option ℕ
double_cell_in value place = option_and_then (λ high. option_map (λ low. high * 4294967296 + low) (number_in value (place + 1))) (number_in value place)

-- the bytes before the first zero byte
abbrev pub text_in : List ℕ → Option (List ℕ)
text_in value = option_map (λ end. take end value) (position (λ b. b == 0) value)

-- the bytes behind the first zero byte
abbrev pub behind_text_in : List ℕ → Option (List ℕ)
behind_text_in value = option_map (λ end. drop (end + 1) value) (position (λ b. b == 0) value)

-- the string at a place of a list of strings, counted from 0, each of which ends at its zero byte
abbrev pub string_in : List ℕ → ℕ → Option (List ℕ)
string_in value zero = text_in value
string_in value (suc n) = option_and_then (λ rest. string_in rest n) (behind_text_in value)
