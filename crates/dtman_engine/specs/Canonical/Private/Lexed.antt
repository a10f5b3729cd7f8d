-- The canonical source cut into blanks and lexemes, line by line as it is printed, and the source that the lexemes spell
-- (Devicetree Specification v0.4, chapter 6).
use Rattle.std.specs.Prelude.{ℕ, ◌+◌, ◌%◌, ◌==◌, Bool, true, false, List, [], ◌∷◌, ◌++◌, length, map, flat_map, codes, if◌then◌else◌}
use Rattle.dt_tree.specs.declared.property.Property.{Property}
use Rattle.dt_tree.specs.NodeData.{NodeData, Siblings, none, more}
use Rattle.dt_tree.specs.TreeData.{TreeData}
use Rattle.dt_blob.specs.BigEndian.{double_word}
use Rattle.dt_blob.specs.SourceText.{hex_of, are_strings, character, tabs}
use Rattle.dt_text.specs.declared.lexeme.lexeme.Lexeme.{Lexeme}
use Rattle.dt_text.specs.declared.lexeme.lexeme.Kind.{Kind}
use Rattle.dt_text.specs.declared.lexeme.lexeme.Kind.TheVariants as kinds
use Rattle.dt_text.specs.Expression.Expression.{Number}
use Rattle.dt_source.specs.Source.{CellTree, Element, PieceTree, Quoted, Pairs, Cells, Statements, End, Sets, Holds, ReserveTree, ItemTree, Root, SourceTree}

-- ---- a text in parts

pub data Segment : Type 0 where
  Blanks : (bytes : List ℕ) → Segment
  Word : (kind : Kind) (bytes : List ℕ) → Segment

abbrev pub bytes_of : Segment → List ℕ
bytes_of (Blanks bytes) = bytes
bytes_of (Word k bytes) = bytes

-- all the parts, one behind the other
unfoldable pub written : List Segment → List ℕ
written [] = []
written (s ∷ ss) = bytes_of s ++ written ss

-- the place behind parts that begin at this place
unfoldable pub past : ℕ → List Segment → ℕ
past p [] = p
past p (s ∷ ss) = past (p + length (bytes_of s)) ss

abbrev pub lexeme_at : ℕ → Kind → List ℕ → Lexeme
lexeme_at p k bytes = record { kind = k; start = p; end = p + length bytes }

-- the lexemes among parts that begin at this place
unfoldable pub placed : ℕ → List Segment → List Lexeme
placed p [] = []
placed p (Blanks bytes ∷ ss) = placed (p + length bytes) ss
placed p (Word k bytes ∷ ss) = lexeme_at p k bytes ∷ placed (p + length bytes) ss

-- ---- values

abbrev pub space_parts : Bool → List Segment
space_parts later = if later then Blanks (codes " ") ∷ [] else []

abbrev pub comma_parts : Bool → List Segment
comma_parts ended = if ended then Word kinds.Comma (codes ",") ∷ Blanks (codes " ") ∷ [] else []

-- bytes between quotation marks
abbrev pub escaped : List ℕ → List ℕ
escaped [] = []
escaped (b ∷ bytes) = character b ++ escaped bytes

abbrev pub quoted : List ℕ → List ℕ
quoted bytes = 34 ∷ (escaped bytes ++ 34 ∷ [])

-- strings, the first of which has begun with the bytes `held`; `ended`: a string has just ended
abbrev pub string_parts : Bool → List ℕ → List ℕ → List Segment
string_parts ended held [] = []
string_parts ended held (b ∷ bytes) =
    comma_parts ended ++ (if b == 0 then Word kinds.Text (quoted held) ∷ string_parts true [] bytes else string_parts false (held ++ b ∷ []) bytes)

abbrev pub cell_parts : Bool → List ℕ → List Segment
cell_parts later [] = []
cell_parts later (a ∷ []) = []
cell_parts later (a ∷ b ∷ []) = []
cell_parts later (a ∷ b ∷ c ∷ []) = []
cell_parts later (a ∷ b ∷ c ∷ d ∷ bytes) =
    space_parts later ++ (Word kinds.Literal (48 ∷ 120 ∷ hex_of (a ∷ b ∷ c ∷ d ∷ [])) ∷ cell_parts true bytes)

abbrev pub pair_parts : Bool → List ℕ → List Segment
pair_parts later [] = []
pair_parts later (b ∷ bytes) = space_parts later ++ (Word kinds.Pair (hex_of (b ∷ [])) ∷ pair_parts true bytes)

abbrev pub value_parts : List ℕ → List Segment
value_parts value =
    if are_strings false value then string_parts false [] value
    else (if length value % 4 == 0 then Word kinds.Less (codes "<") ∷ (cell_parts false value ++ Word kinds.Greater (codes ">") ∷ [])
    else Word kinds.Square (codes "[") ∷ (pair_parts false value ++ Word kinds.EndSquare (codes "]") ∷ []))

abbrev pub stop_parts : List Segment
stop_parts = Word kinds.Semicolon (codes ";") ∷ Blanks (codes "\n") ∷ []

abbrev pub equals_parts : List Segment
equals_parts = Blanks (codes " ") ∷ Word kinds.Equals (codes "=") ∷ Blanks (codes " ") ∷ []

abbrev pub behind_name : List ℕ → List Segment
behind_name value = if length value == 0 then stop_parts else equals_parts ++ (value_parts value ++ stop_parts)

-- ---- lines

abbrev pub name_parts : ℕ → List ℕ → List Segment
name_parts depth name = Blanks (tabs depth) ∷ Word kinds.Name name ∷ []

abbrev pub property_parts : ℕ → Property → List Segment
property_parts depth p = name_parts depth p.name ++ behind_name p.value

abbrev pub properties_parts : ℕ → List Property → List Segment
properties_parts depth [] = []
properties_parts depth (p ∷ ps) = property_parts depth p ++ properties_parts depth ps

abbrev pub brace_parts : List Segment
brace_parts = Blanks (codes " ") ∷ Word kinds.Brace (codes "{") ∷ Blanks (codes "\n") ∷ []

abbrev pub begin_parts : ℕ → List ℕ → List Segment
begin_parts depth name = name_parts depth name ++ brace_parts

abbrev pub end_parts : ℕ → List Segment
end_parts depth = Blanks (tabs depth) ∷ Word kinds.EndBrace (codes "}") ∷ stop_parts

abbrev pub sibling_parts : ℕ → Siblings → List Segment
sibling_parts depth none = []
sibling_parts depth (more name properties children rest) =
    begin_parts depth name ++ (properties_parts (depth + 1) properties ++ (sibling_parts (depth + 1) children ++ (end_parts depth ++ sibling_parts depth rest)))

abbrev pub root_begin_parts : List Segment
root_begin_parts = Word kinds.Slash (codes "/") ∷ brace_parts

abbrev pub root_parts : NodeData → List Segment
root_parts root = root_begin_parts ++ (properties_parts 1 root.properties ++ (sibling_parts 1 root.children ++ end_parts 0))

abbrev pub long_parts : ℕ → List Segment
long_parts n = Blanks (codes " ") ∷ Word kinds.Literal (48 ∷ 120 ∷ hex_of (double_word n)) ∷ []

abbrev pub memreserve_parts : List Segment
memreserve_parts = Word kinds.MemReserve (codes "/memreserve/") ∷ []

abbrev pub reserve_parts : ℕ × ℕ → List Segment
reserve_parts r = memreserve_parts ++ (long_parts r.0 ++ (long_parts r.1 ++ stop_parts))

abbrev pub reserves_parts : List (ℕ × ℕ) → List Segment
reserves_parts [] = []
reserves_parts (r ∷ rs) = reserve_parts r ++ reserves_parts rs

abbrev pub header_parts : List Segment
header_parts = Word kinds.Version (codes "/dts-v1/") ∷ Word kinds.Semicolon (codes ";") ∷ Blanks (codes "\n\n") ∷ []

abbrev pub parts_of : TreeData → List Segment
parts_of t = header_parts ++ (reserves_parts t.reserves ++ root_parts t.root)

-- the lexemes of the canonical source
abbrev pub lexemes_of : TreeData → List Lexeme
lexemes_of t = placed 0 (parts_of t)

-- ---- what the lexemes spell; `p` is the place where the parts begin

abbrev pub quoted_by : Kind → Lexeme → List PieceTree
quoted_by kinds.Text l = Quoted l ∷ []
quoted_by _ l = []

-- the strings among lexemes
abbrev pub quoted_pieces : List Lexeme → List PieceTree
quoted_pieces ls = flat_map (λ l. quoted_by l.kind l) ls

abbrev pub number_cell : Lexeme → CellTree
number_cell l = Element l (Number l)

abbrev pub value_pieces : ℕ → List ℕ → List PieceTree
value_pieces p value =
    if are_strings false value then quoted_pieces (placed p (string_parts false [] value))
    else (if length value % 4 == 0 then Cells (map number_cell (placed (p + 1) (cell_parts false value))) ∷ []
    else Pairs (placed (p + 1) (pair_parts false value)) ∷ [])

abbrev pub property_pieces : ℕ → List ℕ → List PieceTree
property_pieces p value = if length value == 0 then [] else value_pieces (past p equals_parts) value

abbrev pub name_at : ℕ → ℕ → List ℕ → Lexeme
name_at p depth name = lexeme_at (p + length (tabs depth)) kinds.Name name

-- properties, and the statements behind them
abbrev pub spelled_properties : ℕ → ℕ → List Property → Statements → Statements
spelled_properties p depth [] behind = behind
spelled_properties p depth (x ∷ xs) behind =
    Sets [] (name_at p depth x.name) (property_pieces (past p (name_parts depth x.name)) x.value)
    (spelled_properties (past p (property_parts depth x)) depth xs behind)

-- the places where a node's properties begin, and its children, and what stands behind the node
abbrev pub inside_at : ℕ → ℕ → List ℕ → ℕ
inside_at p depth name = past p (begin_parts depth name)

abbrev pub children_at : ℕ → ℕ → List ℕ → List Property → ℕ
children_at p depth name properties = past (inside_at p depth name) (properties_parts (depth + 1) properties)

abbrev pub behind_at : ℕ → ℕ → List ℕ → List Property → Siblings → ℕ
behind_at p depth name properties children = past (past (children_at p depth name properties) (sibling_parts (depth + 1) children)) (end_parts depth)

abbrev pub spelled_siblings : ℕ → ℕ → Siblings → Statements
spelled_siblings p depth none = End
spelled_siblings p depth (more name properties children rest) =
    Holds [] (name_at p depth name)
    (spelled_properties (inside_at p depth name) (depth + 1) properties (spelled_siblings (children_at p depth name properties) (depth + 1) children))
    (spelled_siblings (behind_at p depth name properties children) depth rest)

abbrev pub spelled_root : ℕ → NodeData → ItemTree
spelled_root p root =
    Root (spelled_properties (past p root_begin_parts) 1 root.properties (spelled_siblings (past (past p root_begin_parts) (properties_parts 1 root.properties)) 1 root.children))

-- the number behind a blank
abbrev pub long_at : ℕ → ℕ → Lexeme
long_at p n = lexeme_at (p + 1) kinds.Literal (48 ∷ 120 ∷ hex_of (double_word n))

abbrev pub spelled_reserve : ℕ → ℕ × ℕ → ReserveTree
spelled_reserve p r = record {
  address = Number (long_at (past p memreserve_parts) r.0);
  size = Number (long_at (past (past p memreserve_parts) (long_parts r.0)) r.1);
}

abbrev pub spelled_reserves : ℕ → List (ℕ × ℕ) → List ReserveTree
spelled_reserves p [] = []
spelled_reserves p (r ∷ rs) = spelled_reserve p r ∷ spelled_reserves (past p (reserve_parts r)) rs

-- the source that the canonical source spells
abbrev pub spelled_of : TreeData → SourceTree
spelled_of t = record {
  headers = false ∷ [];
  reserves = spelled_reserves (past 0 header_parts) t.reserves;
  items = spelled_root (past (past 0 header_parts) (reserves_parts t.reserves)) t.root ∷ [];
}
