-- How the bytes of words are spelled where hex numbers are to be in lower case.
use Rattle.std.specs.Prelude.{ℕ, ◌+◌, ◌==◌, nat_le, Bool, true, false, ◌&&◌, ◌||◌, not, List, [], ◌∷◌, if◌then◌else◌}
use Rattle.dt_format.specs.declared.tokens.spelling.Run.{Run}
use Rattle.dt_format.specs.declared.tokens.spelling.Run.TheVariants.{Free, Name, Number}
use Rattle.dt_format.specs.Bytes.{is_name}

-- the letters A to F and X as small ones
abbrev pub lower : ℕ → ℕ
lower c = if nat_le 65 c && nat_le c 70 || c == 88 then c + 32 else c

abbrev pub is_hex_digit : ℕ → Bool
is_hex_digit c = nat_le 48 c && nat_le c 57 || nat_le 65 c && nat_le c 70 || nat_le 97 c && nat_le c 102

-- a letter of a number's suffix (dtc 1.6, dtc-lexer.l)
abbrev pub is_suffix : ℕ → Bool
is_suffix c = c == 85 || c == 76 || c == 117 || c == 108

-- A byte of a name that can't stand in a number; the flag says that a letter of a suffix stands before.
abbrev pub is_strange : Bool → ℕ → Bool
is_strange behind c = not (is_suffix c) && (behind || not (is_hex_digit c))

-- digits of hex, letters of a suffix, and then no character of a name
unfoldable pub digits_end : Bool → List ℕ → Bool
digits_end behind [] = true
digits_end behind (c ∷ s) =
    if not (is_name c) then true else
    (if is_strange behind c then false else digits_end (behind || is_suffix c) s)

-- A hex number stands at the front: 0, x or X, digits and a suffix (Devicetree Specification v0.4, section 6.3).
abbrev pub is_number : List ℕ → Bool
is_number [] = false
is_number (c ∷ []) = false
is_number (c ∷ x ∷ []) = false
is_number (c ∷ x ∷ d ∷ s) = c == 48 && ((x == 120 || x == 88) && is_hex_digit d && digits_end false s)

-- in what a byte stands, with which this text begins, by that of the byte before it: names and numbers are runs of characters of names
abbrev pub within_run : Run → List ℕ → Run
within_run Free s = if is_number s then Number else Name
within_run Name s = Name
within_run Number s = Number

abbrev pub read_on : Run → ℕ → List ℕ → Run
read_on run c s = if not (is_name c) then Free else within_run run s

abbrev pub spell : Run → ℕ → ℕ
spell Number c = lower c
spell Free c = c
spell Name c = c
