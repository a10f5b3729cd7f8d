-- What stands behind the first byte of a lexeme, and how far it reaches.
use Rattle.std.specs.Prelude.{◌≡◌, ℕ, ◌+◌, ◌-◌, ◌<◌, ◌≤◌, ◌==◌, nat_le, nat_lt, Bool, true, false, ◌&&◌, ◌||◌, not, List, [], ◌∷◌, length, take, get_or, Option, Some, None, if◌then◌else◌}
use Rattle.std.specs.List.{list_all}
use Rattle.dt_tree.specs.Limits.{name_limit}
use Rattle.dt_text.specs.declared.lexeme.bytes.Class.{Class}
use Rattle.dt_text.specs.declared.lexeme.bytes.Class.TheVariants.{Word, Name, HexDigit, Ell}
use Rattle.dt_text.specs.declared.lexeme.language.Language.{Language}
use Rattle.dt_text.specs.declared.lexeme.language.Language.TheVariants.{Profile, Dtc}
use Rattle.dt_text.specs.Lexeme.Bytes.{is_word, is_name, is_hex, passes}

-- ---- the longest front

-- The longest front that passes the test has n bytes.
pub record IsFront (b : List ℕ → Bool) (s : List ℕ) (n : ℕ) : Type 0 where
  pub within : n ≤ length s
  pub is : b (take n s) ≡ true
  pub longest : (m : ℕ) → n < m → m ≤ length s → b (take m s) ≡ false

-- how many bytes the longest front has that passes the test, if one does
abbrev pub Front : (List ℕ → Bool) → List ℕ → Option ℕ → Type 0
Front b s None = (m : ℕ) → m ≤ length s → b (take m s) ≡ false
Front b s (Some n) = IsFront b s n

abbrev pub is_empty : List ℕ → Bool
is_empty [] = true
is_empty (c ∷ s) = false

-- at most so many bytes that pass a test
abbrev pub at_most : ℕ → (List ℕ → Bool) → List ℕ → Bool
at_most n b s = b s && nat_le (length s) n

-- ---- labels, names, references (Devicetree Specification v0.4, section 6.2)

-- The first byte that passes the second test is the last, and those before it pass the first.
unfoldable pub ends : (ℕ → Bool) → (ℕ → Bool) → List ℕ → Bool
ends p q [] = false
ends p q (c ∷ s) = if q c then is_empty s else p c && ends p q s

-- characters of a label and a colon
abbrev pub ends_label : List ℕ → Bool
ends_label = ends is_word (λ c. c == 58)

-- behind the first letter of a label: with it at most 255 characters, and a colon
abbrev pub labels : List ℕ → Bool
labels = at_most name_limit ends_label

-- behind the first character of a name: with it at most 255 characters
abbrev pub names : List ℕ → Bool
names = at_most (name_limit - 1) (list_all (passes Name))

-- behind the first letter of a reference's label: with it at most 255 characters
abbrev pub words : List ℕ → Bool
words = at_most (name_limit - 1) (list_all (passes Word))

-- bytes that are no slash, and a slash
abbrev pub ends_word : List ℕ → Bool
ends_word = ends (λ c. not (c == 47)) (λ c. c == 47)

-- ---- strings

-- The last byte is this quote, and none before it is one, but behind a backslash (92) any byte stands. The flag says that a
-- backslash stands before, or the first quote, behind which the text begins.
unfoldable pub closes : ℕ → Bool → List ℕ → Bool
closes quote escaped [] = false
closes quote true (c ∷ s) = closes quote false s
closes quote false (c ∷ s) = if c == quote then is_empty s else closes quote (c == 92) s

-- A string of dtc's language (dtc 1.6, dtc-lexer.l: STRING): the same, but behind a backslash stands no line feed (10).
unfoldable pub closes_string : Bool → List ℕ → Bool
closes_string escaped [] = false
closes_string true (c ∷ s) = not (c == 10) && closes_string false s
closes_string false (c ∷ s) = if c == 34 then is_empty s else closes_string (c == 92) s

-- behind the first quote (34) of a string
abbrev pub strings : Language → List ℕ → Bool
strings Profile s = closes 34 false s
strings Dtc s = closes_string false s

-- A character literal behind its first apostrophe (39; dtc 1.6, dtc-lexer.l: CHAR_LITERAL): the last byte is one, and before each
-- other stands a backslash. The flag says that a backslash stands before.
unfoldable pub closes_character : Bool → List ℕ → Bool
closes_character behind [] = false
closes_character behind (c ∷ s) = if c == 39 then is_empty s || behind && closes_character false s else closes_character (c == 92) s

-- ---- paths of references

-- how many characters of a name stand behind a byte of a path, if so many stand before it and it may stand there
abbrev pub path_step : ℕ → ℕ → Option ℕ
path_step n c =
    if c == 47 then (if nat_lt 0 n then Some 0 else None) else
    (if nat_lt n name_limit && is_name c then Some (n + 1) else None)

-- whether a brace may stand behind so many characters of a name: in dtc's language also behind a slash (dtc 1.6, dtc-lexer.l: PATHCHAR)
abbrev pub may_close : Language → ℕ → Bool
may_close Profile n = nat_lt 0 n
may_close Dtc n = true

-- The rest of a path and the brace behind it; so many characters of a name stand before it.
unfoldable pub closes_path : Language → ℕ → List ℕ → Bool
closes_path language n [] = false
closes_path language n (c ∷ s) =
    if c == 125 then may_close language n && is_empty s else
    (if c == 47 then nat_lt 0 n && closes_path language 0 s else
    (nat_lt n name_limit && is_name c && closes_path language (n + 1) s))

-- behind the path's first slash: the brace, as the path is `/`, or names
abbrev pub path_behind : Language → List ℕ → Bool
path_behind language [] = false
path_behind language (c ∷ s) = if c == 125 then is_empty s else closes_path language 0 (c ∷ s)

-- behind `&{`: a path and a brace
abbrev pub paths : Language → List ℕ → Bool
paths language [] = false
paths language (c ∷ s) = c == 47 && path_behind language s

-- the path that is named, where a slash (47) may stand behind its last name
abbrev pub path_of : List ℕ → List ℕ
path_of s = if nat_lt 1 (length s) && get_or s (length s - 1) 0 == 47 then take (length s - 1) s else s

-- ---- literals

-- at most two letters L
abbrev pub ells : List ℕ → Bool
ells = at_most 2 (list_all (passes Ell))

-- the letters behind a literal: U, then at most two L, each of them or none
abbrev pub suffix : List ℕ → Bool
suffix [] = true
suffix (c ∷ s) = if c == 85 then ells s else ells (c ∷ s)

-- digits of a class and a suffix
unfoldable pub numbers : Class → List ℕ → Bool
numbers class [] = true
numbers class (c ∷ s) = if passes class c then numbers class s else suffix (c ∷ s)

-- at least one digit of hex, and a suffix
abbrev pub hexes : List ℕ → Bool
hexes [] = false
hexes (c ∷ s) = is_hex c && numbers HexDigit s

-- behind a leading 0: x, hex digits and a suffix
abbrev pub hexed : List ℕ → Bool
hexed [] = false
hexed (c ∷ s) = (c == 120 || c == 88) && hexes s

-- one digit of hex
abbrev pub one_hex : List ℕ → Bool
one_hex [] = false
one_hex (c ∷ s) = is_hex c && is_empty s
