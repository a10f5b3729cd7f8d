-- Character literals: C's, with the escapes that strings have (dtc 1.6, Documentation/dts-format.txt; the escapes are those of
-- the Devicetree Specification v0.4, section 6.2). Of a number above 255 dtc keeps the low eight bits.
use Rattle.std.specs.Prelude.{ℕ, ◌%◌, ◌==◌, ◌&&◌, List, [], ◌∷◌, length, Option, Some, None, if◌then◌else◌, nat_lt, nat_le, option_map}
use Rattle.std.specs.Char.{digit_value, is_digit}
use Rattle.std.specs.List.{list_all}
use Rattle.std.specs.Str.Parse.{digits_value}

-- the value of a digit
abbrev pub digit_in : ℕ → ℕ → Option ℕ
digit_in radix c = if is_digit c radix then Some (digit_value c) else None

-- what a letter of C's stands for behind a backslash; any other byte stands for itself
abbrev pub control_of : ℕ → ℕ
control_of c =
    if c == 97 then 7
    else (if c == 98 then 8 else (if c == 116 then 9 else (if c == 110 then 10 else (if c == 118 then 11 else (if c == 102 then 12 else (if c == 114 then 13 else c))))))

-- the byte of one digit or more, but not more than these
abbrev pub byte_of : ℕ → ℕ → List ℕ → Option ℕ
byte_of radix most digits =
    if nat_lt 0 (length digits) && (nat_le (length digits) most && list_all (λ c. is_digit c radix) digits) then Some (digits_value radix digits % 256) else None

-- a byte with nothing behind it
abbrev pub single : List ℕ → Option ℕ
single [] = None
single (c ∷ []) = Some c
single (c ∷ d ∷ ds) = None

-- a byte behind a backslash, with nothing behind it
abbrev pub alone_of : List ℕ → Option ℕ
alone_of cs = option_map control_of (single cs)

-- what stands behind a backslash: x (120) with one or two hex digits, one to three octal digits, or a byte. Where nothing does, dtc reads
-- on to the last apostrophe (39; dtc 1.6, util.c: get_escape_char).
abbrev pub escape_of : List ℕ → Option ℕ
escape_of [] = Some 39
escape_of (c ∷ cs) = if c == 120 then byte_of 16 2 cs else (if is_digit c 8 then byte_of 8 3 (c ∷ cs) else alone_of (c ∷ cs))

-- the number of what stands between the quotes: of a byte, or of an escape behind a backslash (92)
abbrev pub character_of : List ℕ → Option ℕ
character_of [] = None
character_of (c ∷ cs) = if c == 92 then escape_of cs else single (c ∷ cs)
