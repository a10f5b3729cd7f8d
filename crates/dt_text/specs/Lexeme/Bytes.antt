-- Classes of bytes of a devicetree source.
use Rattle.std.specs.Prelude.{ℕ, ◌==◌, nat_le, Bool, false, ◌&&◌, ◌||◌, List, [], ◌∷◌}
use Rattle.dt_text.specs.declared.lexeme.bytes.Class.{Class}
use Rattle.dt_text.specs.declared.lexeme.bytes.Class.TheVariants.{Word, Name, Digit, HexDigit, Ell}

-- space, tab, line feed, carriage return, vertical tab and form feed
abbrev pub is_blank : ℕ → Bool
is_blank c = c == 32 || nat_le 9 c && nat_le c 13

abbrev pub is_digit : ℕ → Bool
is_digit c = nat_le 48 c && nat_le c 57

abbrev pub is_hex : ℕ → Bool
is_hex c = is_digit c || nat_le 65 c && nat_le c 70 || nat_le 97 c && nat_le c 102

-- the first character of a label
abbrev pub is_letter : ℕ → Bool
is_letter c = nat_le 65 c && nat_le c 90 || nat_le 97 c && nat_le c 122 || c == 95

-- a further character of a label (Devicetree Specification v0.4, section 6.2)
abbrev pub is_word : ℕ → Bool
is_word c = is_letter c || is_digit c

-- A character of a name: letters, digits and , . _ + * # ? @ -
-- (Devicetree Specification v0.4, sections 2.2.1 and 2.2.4)
abbrev pub is_name : ℕ → Bool
is_name c = is_word c || c == 44 || c == 46 || c == 43 || c == 42 || c == 35 || c == 63 || c == 64 || c == 45

-- whether a byte stands in a run of this class
abbrev pub passes : Class → ℕ → Bool
passes Word c = is_word c
passes Name c = is_name c
passes Digit c = is_digit c
passes HexDigit c = is_hex c
passes Ell c = c == 76

-- what stands at the front

abbrev pub begins : ℕ → List ℕ → Bool
begins b [] = false
begins b (c ∷ s) = c == b

abbrev pub begins_letter : List ℕ → Bool
begins_letter [] = false
begins_letter (c ∷ s) = is_letter c

abbrev pub begins_hex : List ℕ → Bool
begins_hex [] = false
begins_hex (c ∷ s) = is_hex c

abbrev pub begins_x : List ℕ → Bool
begins_x [] = false
begins_x (c ∷ s) = c == 120 || c == 88
