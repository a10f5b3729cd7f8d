-- Classes of bytes of a source that is not preprocessed yet, and white space at its front.
use Rattle.std.specs.Prelude.{ℕ, ◌==◌, nat_le, Bool, ◌&&◌, ◌||◌, not, List, [], ◌∷◌, if◌then◌else◌}

-- space, tab, line feed, vertical tab, form feed and carriage return (C11, 6.4)
abbrev pub is_white : ℕ → Bool
is_white c = c == 32 || nat_le 9 c && nat_le c 13

-- white space that doesn't end a line
abbrev pub is_blank : ℕ → Bool
is_blank c = not (c == 10) && is_white c

-- a character of an identifier (C11, 6.4.2.1)
abbrev pub is_letter : ℕ → Bool
is_letter c = nat_le 97 c && nat_le c 122 || nat_le 65 c && nat_le c 90 || nat_le 48 c && nat_le c 57 || c == 95

-- a character of a name: those, and , . + * # ? @ - (Devicetree Specification v0.4, sections 2.2.1 and 2.2.4)
abbrev pub is_name : ℕ → Bool
is_name c = is_letter c || c == 44 || c == 46 || c == 43 || c == 42 || c == 35 || c == 63 || c == 64 || c == 45

-- ; { }
abbrev pub is_stop : ℕ → Bool
is_stop c = c == 59 || c == 123 || c == 125

-- a token of one byte outside parentheses: those, and = < > [ ]
abbrev pub is_mark : ℕ → Bool
is_mark c = is_stop c || c == 61 || c == 60 || c == 62 || c == 91 || c == 93

-- a token of two bytes: << >> == <= >= (C11, 6.4.6)
abbrev pub is_pair : ℕ → ℕ → Bool
is_pair c d = d == c && (c == 60 || c == 62 || c == 61) || d == 61 && (c == 60 || c == 62)

-- the byte at the front, or 0 at the end
abbrev pub byte_of : List ℕ → ℕ
byte_of [] = 0
byte_of (c ∷ s) = c

-- ---- white space at the front

-- what stands behind it
unfoldable pub behind_white : List ℕ → List ℕ
behind_white [] = []
behind_white (c ∷ s) = if is_white c then behind_white s else c ∷ s

-- whether a line begins before what stands behind it, with nothing else between; the flag says so of the front
unfoldable pub starts_behind : Bool → List ℕ → Bool
starts_behind starts [] = starts
starts_behind starts (c ∷ s) = if is_white c then starts_behind (starts || c == 10) s else starts
