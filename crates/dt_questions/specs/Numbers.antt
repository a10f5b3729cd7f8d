-- Addresses in hexadecimal digits, as /proc/iomem of Linux has them, and sizes in GiB, MiB or KiB.
use Rattle.std.specs.Prelude.{ℕ, zero, suc, ◌+◌, ◌-◌, ◌/◌, ◌%◌, ◌==◌, nat_lt, codes, decimal, if◌then◌else◌, List, [], ◌∷◌, ◌++◌}

abbrev pub hex_digit : ℕ → ℕ
hex_digit n = if nat_lt n 10 then 48 + n else 87 + n

-- so many digits to the base of 16
abbrev pub hex_digits : ℕ → ℕ → List ℕ
hex_digits zero n = []
hex_digits (suc count) n = hex_digits count (n / 16) ++ hex_digit (n % 16) ∷ []

-- eight, or sixteen where eight don't do
abbrev pub address_text : ℕ → List ℕ
address_text n = if nat_lt n 4294967296 then hex_digits 8 n else hex_digits 16 n

abbrev pub unit_text : ℕ → List ℕ → List ℕ
unit_text n unit = decimal n ++ unit

-- in the largest of GiB, MiB and KiB that makes it whole, else in bytes
abbrev pub size_text : ℕ → List ℕ
size_text n =
    if n % 1073741824 == 0 then unit_text (n / 1073741824) (codes "G")
    else (if n % 1048576 == 0 then unit_text (n / 1048576) (codes "M")
    else (if n % 1024 == 0 then unit_text (n / 1024) (codes "K") else decimal n))

-- its first address, its last, and its size
abbrev pub span_text : ℕ → ℕ → List ℕ
span_text start size = address_text start ++ 45 ∷ [] ++ address_text (start + size - 1) ++ 32 ∷ [] ++ size_text size
