-- Elements of cells, by their width in bits (Devicetree Specification v0.4, section 6.3: /bits/ and arrays of integers).
use Rattle.std.specs.Prelude.{ℕ, zero, suc, ◌-◌, ◌*◌, ◌/◌, ◌%◌, ◌^◌, Bool, ◌||◌, List, [], ◌∷◌, Ok, Err, Option, None, Some, nat_lt, ◌==◌, if◌then◌else◌}
use Rattle.dt_text.specs.declared.lexeme.lexeme.FaultKind.TheVariants.{ElementRange}
use Rattle.dt_text.specs.declared.expression.elements.Width.{Width}
use Rattle.dt_text.specs.declared.expression.elements.Width.TheVariants.{Eight, Sixteen, ThirtyTwo, SixtyFour}
use Rattle.dt_text.specs.Expression.Values.{Value}

-- how many bytes an element of this width has
abbrev pub bytes_in : Width → ℕ
bytes_in Eight = 1
bytes_in Sixteen = 2
bytes_in ThirtyTwo = 4
bytes_in SixtyFour = 8

-- the width that /bits/ names
abbrev pub width_of : ℕ → Option Width
width_of n = if n == 8 then Some Eight else if n == 16 then Some Sixteen else if n == 32 then Some ThirtyTwo else if n == 64 then Some SixtyFour else None

-- A number of 64 bits is below 2 ^ bits, or all its bits from there up are ones.
abbrev pub fits_bits : ℕ → ℕ → Bool
fits_bits bits n = nat_lt n (2 ^ bits) || (n / 2 ^ bits == 2 ^ (64 - bits) - 1)

-- the low bytes of a number, this many, the highest first
abbrev pub low_bytes : ℕ → ℕ → List ℕ
low_bytes zero n = []
low_bytes (suc count) n = n / 256 ^ count % 256 ∷ low_bytes count n

-- the number of an element whose first lexeme has this place, or its fault
abbrev pub element : Width → ℕ → Value → Value
element width place (Err f) = Err f
element width place (Ok n) = if fits_bits (8 * bytes_in width) n then Ok n else Err (record { kind = ElementRange; place = place })
