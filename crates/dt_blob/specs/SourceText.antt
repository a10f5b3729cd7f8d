-- The canonical source of a tree (Devicetree Specification v0.4, chapter 6), as bytes.
use Rattle.std.specs.Prelude.{ℕ, ◌+◌, ◌/◌, ◌%◌, ◌==◌, ◌||◌, ◌&&◌, nat_le, nat_lt, not, Bool, true, false, List, [], ◌∷◌, ◌++◌, length, replicate, codes, if◌then◌else◌}
use Rattle.dt_tree.specs.declared.property.Property.{Property}
use Rattle.dt_tree.specs.NodeData.{NodeData, Siblings, none, more}
use Rattle.dt_tree.specs.TreeData.{TreeData}
use Rattle.dt_blob.specs.BigEndian.{double_word}

-- ---- numbers
-- a lower-case digit
abbrev pub hex_digit : ℕ → ℕ
hex_digit n = if nat_lt n 10 then 48 + n else 87 + n

-- two digits a byte
abbrev pub hex_of : List ℕ → List ℕ
hex_of [] = []
hex_of (b ∷ bytes) = hex_digit (b / 16) ∷ hex_digit (b % 16) ∷ hex_of bytes

-- a space before all but the first
abbrev pub space : Bool → List ℕ
space later = if later then 32 ∷ [] else []

-- ---- values
abbrev pub is_printable : ℕ → Bool
is_printable b = nat_le 32 b && nat_le b 126

-- whether each string is one or more printable bytes and a zero byte; `begun`: a string has begun
abbrev pub are_strings : Bool → List ℕ → Bool
are_strings begun [] = not begun
are_strings begun (b ∷ bytes) =
    if b == 0 then (if begun then are_strings false bytes else false)
    else (if is_printable b then are_strings true bytes else false)

-- a byte between quotation marks, or the mark that ends a string
abbrev pub character : ℕ → List ℕ
character b = if b == 0 then 34 ∷ [] else (if b == 34 || b == 92 then 92 ∷ b ∷ [] else b ∷ [])

-- what leads from a string that has ended to the next
abbrev pub comma : Bool → List ℕ
comma ended = if ended then 44 ∷ 32 ∷ 34 ∷ [] else []

-- strings behind the first quotation mark; `ended`: a string has just ended
abbrev pub strings_text : Bool → List ℕ → List ℕ
strings_text ended [] = []
strings_text ended (b ∷ bytes) = comma ended ++ (character b ++ strings_text (b == 0) bytes)

-- cells of four bytes each
abbrev pub cells_text : Bool → List ℕ → List ℕ
cells_text later [] = []
cells_text later (a ∷ []) = []
cells_text later (a ∷ b ∷ []) = []
cells_text later (a ∷ b ∷ c ∷ []) = []
cells_text later (a ∷ b ∷ c ∷ d ∷ bytes) = space later ++ (48 ∷ 120 ∷ (hex_of (a ∷ b ∷ c ∷ d ∷ []) ++ cells_text true bytes))

-- single bytes
abbrev pub pairs_text : Bool → List ℕ → List ℕ
pairs_text later [] = []
pairs_text later (b ∷ bytes) = space later ++ (hex_of (b ∷ []) ++ pairs_text true bytes)

-- the first form that fits
abbrev pub value_text : List ℕ → List ℕ
value_text value =
    if are_strings false value then 34 ∷ strings_text false value
    else (if length value % 4 == 0 then 60 ∷ (cells_text false value ++ 62 ∷ []) else 91 ∷ (pairs_text false value ++ 93 ∷ []))

-- what stands behind a property's name
abbrev pub value_part : List ℕ → List ℕ
value_part value = if length value == 0 then codes ";\n" else codes " = " ++ (value_text value ++ codes ";\n")

-- ---- lines
abbrev pub tabs : ℕ → List ℕ
tabs depth = replicate depth 9

abbrev pub property_line : ℕ → Property → List ℕ
property_line depth p = tabs depth ++ (p.name ++ value_part p.value)

abbrev pub property_lines : ℕ → List Property → List ℕ
property_lines depth [] = []
property_lines depth (p ∷ ps) = property_line depth p ++ property_lines depth ps

abbrev pub begin_line : ℕ → List ℕ → List ℕ
begin_line depth name = tabs depth ++ (name ++ codes " {\n")

abbrev pub end_line : ℕ → List ℕ
end_line depth = tabs depth ++ codes "};\n"

abbrev pub sibling_lines : ℕ → Siblings → List ℕ
sibling_lines depth none = []
sibling_lines depth (more name properties children rest) =
    begin_line depth name ++ (property_lines (depth + 1) properties ++ (sibling_lines (depth + 1) children ++ (end_line depth ++ sibling_lines depth rest)))

-- a node under a name
abbrev pub node_lines : ℕ → List ℕ → NodeData → List ℕ
node_lines depth name node = begin_line depth name ++ (property_lines (depth + 1) node.properties ++ (sibling_lines (depth + 1) node.children ++ end_line depth))

abbrev pub reserve_line : ℕ × ℕ → List ℕ
reserve_line r = codes "/memreserve/ 0x" ++ (hex_of (double_word r.0) ++ (codes " 0x" ++ (hex_of (double_word r.1) ++ codes ";\n")))

abbrev pub reserve_lines : List (ℕ × ℕ) → List ℕ
reserve_lines [] = []
reserve_lines (r ∷ rs) = reserve_line r ++ reserve_lines rs

abbrev pub text_of : TreeData → List ℕ
text_of tree = codes "/dts-v1/;\n\n" ++ (reserve_lines tree.reserves ++ node_lines 0 (codes "/") tree.root)
