-- What words of a command line say of a value: texts, each with a zero byte behind it (Devicetree Specification v0.4, section 2.2.4,
-- `<stringlist>`), or numbers of one, two or four bytes, the highest byte first (the same, `<u32>`); by the letters of fdtput's -t.
use Rattle.std.specs.Prelude.{◌≡◌, ℕ, ◌+◌, ◌-◌, ◌*◌, ◌%◌, ◌^◌, ◌==◌, Bool, true, not, ◌&&◌, ◌||◌, nat_eq, nat_lt, nat_le, codes, if◌then◌else◌}
use Rattle.std.specs.Prelude.{List, [], ◌∷◌, ◌++◌, length, drop, map, Option, Some, None, is_some, unwrap_or, option_and_then}
use Rattle.std.specs.Borrow.{Bor}
use Rattle.std.specs.Char.{digit_value}
use Rattle.std.specs.Int.{bytes_high_first}
use Rattle.std.specs.List.{find, list_all, starts_with}
use Rattle.std.specs.Option.{option_map}
use Rattle.dtman_blobs.specs.declared.saying.SayError.{SayError}
use Rattle.dtman_blobs.specs.declared.saying.SayError.TheVariants.{NoMemory, NoNumber}
use Rattle.dtman_blobs.specs.declared.value_type.Notation.{Notation}
use Rattle.dtman_blobs.specs.declared.value_type.Notation.TheVariants.{Text, Signed, Unsigned, Hex}
use Rattle.dtman_blobs.specs.declared.value_type.ValueType.{ValueType}
use Rattle.dtman_blobs.specs.declared.value_type.Width.{Width}
use Rattle.dtman_blobs.specs.declared.value_type.Width.TheVariants.{Byte, Half, Cell}

-- ---- numbers
-- the number of 32 bits that digits write behind those of a number; none where one is no digit, or 32 bits don't hold it
abbrev pub digits_behind : ℕ → ℕ → List ℕ → Option ℕ
digits_behind radix n [] = Some n
digits_behind radix n (c ∷ cs) =
    if nat_lt (digit_value c) radix && nat_lt (n * radix + digit_value c) (2 ^ 32) then digits_behind radix (n * radix + digit_value c) cs else None

abbrev pub numeral : ℕ → List ℕ → Option ℕ
numeral radix digits = if length digits == 0 then None else digits_behind radix 0 digits

abbrev pub radix_of : Notation → ℕ
radix_of Text = 10
radix_of Signed = 10
radix_of Unsigned = 10
radix_of Hex = 16

-- without a sign: hexadecimal behind `0x`, and where that is asked for
abbrev pub magnitude : Notation → List ℕ → Option ℕ
magnitude notation digits = if starts_with nat_eq digits (codes "0x") then numeral 16 (drop 2 digits) else numeral (radix_of notation) digits

-- in two's complement
abbrev pub negated : ℕ → Option ℕ
negated n = if nat_lt (2 ^ 31) n then None else Some ((2 ^ 32 - n) % 2 ^ 32)

abbrev pub number_of : Notation → List ℕ → Option ℕ
number_of notation word =
    if starts_with nat_eq word (codes "-") then option_and_then negated (magnitude notation (drop 1 word)) else magnitude notation word

abbrev pub size_of : Width → ℕ
size_of Byte = 1
size_of Half = 2
size_of Cell = 4

-- whether so many bytes hold a number, or the negative one that it stands for
abbrev pub fits : Width → ℕ → Bool
fits Byte n = nat_lt n 0x100 || nat_le 0xffff_ff80 n
fits Half n = nat_lt n 0x1_0000 || nat_le 0xffff_8000 n
fits Cell n = true

abbrev pub bytes_if : Width → ℕ → Option (List ℕ)
bytes_if width n = if fits width n then Some (bytes_high_first (size_of width) n) else None

abbrev pub bytes_of : Notation → Width → List ℕ → Option (List ℕ)
bytes_of notation width word = option_and_then (bytes_if width) (number_of notation word)

-- ---- values
abbrev pub texts : List (List ℕ) → List ℕ
texts [] = []
texts (w ∷ ws) = (w ++ 0 ∷ []) ++ texts ws

abbrev pub numbers : Notation → Width → List (List ℕ) → Option (List ℕ)
numbers notation width [] = Some []
numbers notation width (w ∷ ws) =
    option_and_then (λ bytes. option_map (λ more. bytes ++ more) (numbers notation width ws)) (bytes_of notation width w)

abbrev pub value_by : Notation → Width → List (List ℕ) → Option (List ℕ)
value_by Text width words = Some (texts words)
value_by Signed width words = numbers Signed width words
value_by Unsigned width words = numbers Unsigned width words
value_by Hex width words = numbers Hex width words

-- where nothing else is said, numbers with their sign, of four bytes
abbrev pub notation_of : ValueType → Notation
notation_of kind = unwrap_or kind.notation Signed

abbrev pub width_of : ValueType → Width
width_of kind = unwrap_or kind.width Cell

abbrev pub value_said : ValueType → List (List ℕ) → Option (List ℕ)
value_said kind words = value_by (notation_of kind) (width_of kind) words

-- the first word that is no number of the width
abbrev pub is_none : Notation → Width → List ℕ → Bool
is_none notation width word = not (is_some (bytes_of notation width word))

abbrev pub unsaid : Notation → Width → List (List ℕ) → Option (List ℕ)
unsaid notation width words = find (is_none notation width) words

-- why words say no value
abbrev pub IsUnsaidBy : Notation → Width → List (List ℕ) → SayError → Type 0
IsUnsaidBy notation width words NoMemory = Unit {0}
IsUnsaidBy notation width words (NoNumber word) = unsaid notation width words ≡ Some word.now

abbrev pub IsUnsaid : ValueType → List (List ℕ) → SayError → Type 0
IsUnsaid kind words e = IsUnsaidBy (notation_of kind) (width_of kind) words e

-- ---- words
abbrev pub words_in : List (Bor (List ℕ)) → List (List ℕ)
words_in words = map (λ word. word.now) words

abbrev pub are_numbers : List (List ℕ) → Bool
are_numbers words = list_all (λ word. is_some (number_of Signed word)) words

-- words that are all numbers make cells where nothing is said of them, and others texts
abbrev pub kind_of : ValueType → List (List ℕ) → ValueType
kind_of kind words = record { width = kind.width; notation = Some (unwrap_or kind.notation (if are_numbers words then Signed else Text)) }
