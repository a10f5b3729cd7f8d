-- Sources, the lexemes that spell them, what they say, and their faults (Devicetree Specification v0.4, sections 6.2 and 6.3). What
-- begins with a lexeme that only dtc's language has is dtc's (dtc 1.6, Documentation/dts-format.txt).
use Rattle.std.specs.Prelude.{◌≡◌, ◌≢◌, ℕ, nat_le, length, Bool, true, false, ◌||◌, List, [], ◌∷◌, ◌++◌, Option, Some, None, Result, Ok, map, flat_map, ◌⊎◌, if◌then◌else◌}
use Rattle.dt_text.specs.declared.lexeme.language.Language.{Language}
use Rattle.dt_text.specs.declared.lexeme.language.Language.TheVariants.{Profile, Dtc}
use Rattle.dt_text.specs.declared.lexeme.lexeme.Lexeme.{Lexeme}
use Rattle.dt_text.specs.declared.lexeme.lexeme.Fault.{Fault}
use Rattle.dt_text.specs.declared.lexeme.lexeme.Kind.{Kind}
use Rattle.dt_text.specs.declared.lexeme.lexeme.Kind.TheVariants.{Version, Plugin, MemReserve, Bits, DeleteNode, DeleteProperty, OmitIfNoRef, IncludeBinary, Label, Name, Literal, Text, Reference, PathReference, Pair, Semicolon, Brace, EndBrace, Equals, Comma, Less, Greater, Square, EndSquare, Paren, EndParen, Slash}
use Rattle.dt_text.specs.declared.expression.elements.Width.{Width}
use Rattle.dt_text.specs.declared.expression.elements.Width.TheVariants.{ThirtyTwo}
use Rattle.dt_source.specs.declared.cell.Cell.{Cell}
use Rattle.dt_source.specs.declared.cell.Cell.TheVariants as cells
use Rattle.dt_text.specs.Expression.Expression.{Expression, Begins, Takes, Deeper, SpellsPrimary}
use Rattle.dt_text.specs.Expression.Values.{Value, literal_of, value_of}
use Rattle.dt_source.specs.Sequences.{SpellsEach}
use Rattle.dt_source.specs.TreeMeaning.Syntax.{Piece, Plain, PathOf, Entry, Defines, Undefines, Child, Removes, body_of, Edit, Rooted, Extends, Deletes, Omits, Meaning}
use Rattle.dt_source.specs.Strings.{string_bytes, string_faults, pair_byte}
use Rattle.dt_source.specs.Pieces.{target_of, width_at, width_in, fault_in, cell_fault, cells_pieces, portion_pieces, joined}
use Rattle.dt_source.specs.Marks.{is_mark, omits, labels_in}
use Rattle.dt_source.specs.Words.{label_bytes, name_bytes, concat}

-- ---- what is spelled, with the lexemes that its meaning and its faults are of

pub data CellTree : Type 0 where
  Element : (first : Lexeme) (value : Expression) → CellTree
  Refers : (reference : Lexeme) → CellTree
  Marks : (label : Lexeme) → CellTree

-- what stands behind a file's name: nothing, or an offset and a length
pub data PortionTree : Type 0 where
  Whole : PortionTree
  Portion : (offset size : Expression) → PortionTree

pub data PieceTree : Type 0 where
  Quoted : (text : Lexeme) → PieceTree
  Points : (reference : Lexeme) → PieceTree
  Pairs : (pairs : List Lexeme) → PieceTree
  Cells : (cells : List CellTree) → PieceTree
  WideCells : (bits : Lexeme) (cells : List CellTree) → PieceTree
  Includes : (word name : Lexeme) (portion : PortionTree) → PieceTree

-- the statements of a body
pub data Statements : Type 0 where
  End : Statements
  Sets : (labels : List Lexeme) (name : Lexeme) (value : List PieceTree) (more : Statements) → Statements
  Unsets : (name : Lexeme) (more : Statements) → Statements
  Holds : (marks : List Lexeme) (name : Lexeme) (body more : Statements) → Statements
  Drops : (name : Lexeme) (more : Statements) → Statements

pub record ReserveTree : Type 0 where
  pub address : Expression
  pub size : Expression

pub data ItemTree : Type 0 where
  Root : (body : Statements) → ItemTree
  Extend : (labels : List Lexeme) (reference : Lexeme) (body : Statements) → ItemTree
  Delete : (reference : Lexeme) → ItemTree
  Omit : (reference : Lexeme) → ItemTree

-- headers say whether they are a plugin's
pub record SourceTree : Type 0 where
  pub headers : List Bool
  pub reserves : List ReserveTree
  pub items : List ItemTree

-- ---- spelling: each says that the lexemes begin so, and that the rest follows

-- This one lexeme, of a kind, stands at the front.
abbrev pub One : Kind → Lexeme → List Lexeme → List Lexeme → Type 0
One k l ts rest = (l.kind ≡ k) × Takes ts l rest

abbrev pub IsReference : Kind → Type 0
IsReference k = (k ≡ Reference) ⊎ (k ≡ PathReference)

abbrev pub OneReference : Lexeme → List Lexeme → List Lexeme → Type 0
OneReference l ts rest = IsReference l.kind × Takes ts l rest

abbrev pub SpellsLabels : List Lexeme → List Lexeme → List Lexeme → Type 0
SpellsLabels ls ts rest = SpellsEach (One Label) ls ts rest

abbrev pub OneMark : Lexeme → List Lexeme → List Lexeme → Type 0
OneMark l ts rest = (is_mark l.kind ≡ true) × Takes ts l rest

abbrev pub SpellsMarks : List Lexeme → List Lexeme → List Lexeme → Type 0
SpellsMarks ms ts rest = SpellsEach OneMark ms ts rest

-- Labels that are read and dropped.
abbrev pub DropsLabels : List Lexeme → List Lexeme → Type 0
DropsLabels ts rest = (ls : List Lexeme) × SpellsLabels ls ts rest

abbrev pub SpellsCell : CellTree → List Lexeme → List Lexeme → Type 0
SpellsCell (Element l e) ts rest = (a : List Lexeme) × Takes ts l a × SpellsPrimary e ts rest
SpellsCell (Refers l) ts rest = OneReference l ts rest
SpellsCell (Marks l) ts rest = One Label l ts rest

abbrev pub SpellsCells : List CellTree → List Lexeme → List Lexeme → Type 0
SpellsCells cs ts rest = (a b : List Lexeme) × Begins ts Less a × SpellsEach SpellsCell cs a b × Begins b Greater rest

abbrev pub IsPair : Kind → Type 0
IsPair k = (k ≡ Pair) ⊎ (k ≡ Label)

abbrev pub OnePair : Lexeme → List Lexeme → List Lexeme → Type 0
OnePair l ts rest = IsPair l.kind × Takes ts l rest

-- Offset and length are literals, or expressions in parentheses.
abbrev pub SpellsPortion : PortionTree → List Lexeme → List Lexeme → Type 0
SpellsPortion Whole ts rest = Begins ts EndParen rest
SpellsPortion (Portion o n) ts rest = (a b c d : List Lexeme) × Begins ts Comma a × SpellsPrimary o a b × Begins b Comma c × SpellsPrimary n c d × Begins d EndParen rest

abbrev pub SpellsPiece : PieceTree → List Lexeme → List Lexeme → Type 0
SpellsPiece (Quoted l) ts rest = One Text l ts rest
SpellsPiece (Points l) ts rest = OneReference l ts rest
SpellsPiece (Pairs ls) ts rest = (a b : List Lexeme) × Begins ts Square a × SpellsEach OnePair ls a b × Begins b EndSquare rest
SpellsPiece (Cells cs) ts rest = SpellsCells cs ts rest
SpellsPiece (WideCells l cs) ts rest = (a b : List Lexeme) × Begins ts Bits a × One Literal l a b × SpellsCells cs b rest
SpellsPiece (Includes w l p) ts rest = (a b c : List Lexeme) × One IncludeBinary w ts a × Begins a Paren b × One Text l b c × SpellsPortion p c rest

abbrev pub SpellsPlaced : PieceTree → List Lexeme → List Lexeme → Type 0
SpellsPlaced p ts rest = (a b : List Lexeme) × DropsLabels ts a × SpellsPiece p a b × DropsLabels b rest

abbrev pub SpellsFurther : PieceTree → List Lexeme → List Lexeme → Type 0
SpellsFurther p ts rest = (a : List Lexeme) × Begins ts Comma a × SpellsPlaced p a rest

-- A property without value has no pieces.
abbrev pub SpellsValue : List PieceTree → List Lexeme → List Lexeme → Type 0
SpellsValue [] ts rest = ts ≡ rest
SpellsValue (p ∷ ps) ts rest = (a b : List Lexeme) × Begins ts Equals a × SpellsPlaced p a b × SpellsEach SpellsFurther ps b rest

-- What may stand before a deletion in a body, and says nothing: marks in dtc's language, which are labels where a property
-- is deleted; in the profile nothing.
abbrev pub stand_before_deletion : Language → Kind → List Lexeme → Bool
stand_before_deletion Profile k [] = true
stand_before_deletion Profile k (m ∷ ms) = false
stand_before_deletion Dtc DeleteProperty ms = if omits ms then false else true
stand_before_deletion Dtc _ ms = true

abbrev pub BeginsDeletion : Language → Kind → List Lexeme → List Lexeme → Type 0
BeginsDeletion language k ts rest = (ms a : List Lexeme) × SpellsMarks ms ts a × (stand_before_deletion language k ms ≡ true) × Begins a k rest

-- Where nodes is true a node or the deletion of one stood before, and no property follows. A body in this one may
-- stand where a level is left. The closing brace belongs to the spelling.
unfoldable pub SpellsStatements : Language → ℕ → Bool → Statements → List Lexeme → List Lexeme → Type 0
SpellsStatements language depth nodes End ts rest = Begins ts EndBrace rest
SpellsStatements language depth nodes (Sets ls n v more) ts rest =
    (nodes ≡ false) × (a b c d : List Lexeme) × SpellsLabels ls ts a × One Name n a b × SpellsValue v b c × Begins c Semicolon d × SpellsStatements language depth false more d rest
SpellsStatements language depth nodes (Unsets n more) ts rest =
    (nodes ≡ false) × (a b c : List Lexeme) × BeginsDeletion language DeleteProperty ts a × One Name n a b × Begins b Semicolon c × SpellsStatements language depth false more c rest
SpellsStatements language depth nodes (Holds ms n body more) ts rest =
    (a b c d e : List Lexeme) × SpellsMarks ms ts a × One Name n a b × Begins b Brace c
    × Deeper depth (λ inner. SpellsStatements language inner false body c d) × Begins d Semicolon e × SpellsStatements language depth true more e rest
SpellsStatements language depth nodes (Drops n more) ts rest =
    (a b c : List Lexeme) × BeginsDeletion language DeleteNode ts a × One Name n a b × Begins b Semicolon c × SpellsStatements language depth true more c rest

-- how many bodies stand within one another below an item's, at most: as many levels as a tree has
abbrev pub body_limit : ℕ
body_limit = 64

abbrev pub SpellsBody : Language → Statements → List Lexeme → List Lexeme → Type 0
SpellsBody language s ts rest = (a b : List Lexeme) × Begins ts Brace a × SpellsStatements language body_limit false s a b × Begins b Semicolon rest

-- Before a reference stands any number of labels, in dtc's language one at most.
abbrev pub stand_before_reference : Language → List Lexeme → Bool
stand_before_reference Profile ls = true
stand_before_reference Dtc ls = nat_le (length ls) 1

abbrev pub SpellsItem : Language → ItemTree → List Lexeme → List Lexeme → Type 0
SpellsItem language (Root s) ts rest = (a : List Lexeme) × Begins ts Slash a × SpellsBody language s a rest
SpellsItem language (Extend ls l s) ts rest =
    (a b : List Lexeme) × SpellsLabels ls ts a × OneReference l a b × SpellsBody language s b rest × (stand_before_reference language ls ≡ true)
SpellsItem language (Delete l) ts rest = (a b : List Lexeme) × Begins ts DeleteNode a × OneReference l a b × Begins b Semicolon rest
SpellsItem language (Omit l) ts rest = (a b : List Lexeme) × Begins ts OmitIfNoRef a × OneReference l a b × Begins b Semicolon rest

abbrev pub SpellsReserve : ReserveTree → List Lexeme → List Lexeme → Type 0
SpellsReserve r ts rest = (a b c d : List Lexeme) × DropsLabels ts a × Begins a MemReserve b × SpellsPrimary r.address b c × SpellsPrimary r.size c d × Begins d Semicolon rest

abbrev pub SpellsHeader : Bool → List Lexeme → List Lexeme → Type 0
SpellsHeader false ts rest = (a : List Lexeme) × Begins ts Version a × Begins a Semicolon rest
SpellsHeader true ts rest = (a b c : List Lexeme) × Begins ts Version a × Begins a Semicolon b × Begins b Plugin c × Begins c Semicolon rest

-- All the lexemes spell the source in this language.
unfoldable pub Spells : Language → SourceTree → List Lexeme → Type 0
Spells language s ts =
    (s.headers ≢ []) × (s.items ≢ []) × (a b : List Lexeme)
    × SpellsEach SpellsHeader s.headers ts a × SpellsEach SpellsReserve s.reserves a b × SpellsEach (SpellsItem language) s.items b []

-- ---- what is said

abbrev pub cell_of : List ℕ → CellTree → Cell
cell_of text (Element l e) = cells.Element l.start (value_of text e)
cell_of text (Refers l) = cells.Reference l
cell_of text (Marks l) = cells.Label

abbrev pub cells_said : List ℕ → Option Width → List CellTree → List Piece
cells_said text w cs = cells_pieces text w (map (cell_of text) cs)

abbrev pub pair_by_kind : List ℕ → Lexeme → Kind → List ℕ
pair_by_kind text l Pair = pair_byte text l ∷ []
pair_by_kind text l _ = []

abbrev pub pair_bytes : List ℕ → Lexeme → List ℕ
pair_bytes text l = pair_by_kind text l l.kind

abbrev pub width_said : List ℕ → Lexeme → Result Width Fault
width_said text l = width_at l (literal_of text l)

abbrev pub portion_values : List ℕ → PortionTree → Option (Value × Value)
portion_values text Whole = None
portion_values text (Portion o n) = Some (value_of text o, value_of text n)

abbrev pub piece_said : Language → List ℕ → PieceTree → List Piece
piece_said language text (Quoted l) = Plain (string_bytes language text l) ∷ []
piece_said language text (Points l) = PathOf (target_of text l) ∷ []
piece_said language text (Pairs ls) = Plain (concat (map (pair_bytes text) ls)) ∷ []
piece_said language text (Cells cs) = cells_said text (Some ThirtyTwo) cs
piece_said language text (WideCells l cs) = cells_said text (width_in (width_said text l)) cs
piece_said language text (Includes w l p) = portion_pieces w.start (portion_values text p)

abbrev pub value_said : Language → List ℕ → List PieceTree → List Piece
value_said language text ps = joined (flat_map (piece_said language text) ps)

unfoldable pub entries_of : Language → List ℕ → Statements → List (Entry (List Piece))
entries_of language text End = []
entries_of language text (Sets ls n v more) = Defines (name_bytes text n) (value_said language text v) ∷ entries_of language text more
entries_of language text (Unsets n more) = Undefines (name_bytes text n) ∷ entries_of language text more
entries_of language text (Holds ms n body more) = Child (omits ms) (map (label_bytes text) (labels_in ms)) (name_bytes text n) (body_of (entries_of language text body)) ∷ entries_of language text more
entries_of language text (Drops n more) = Removes (name_bytes text n) ∷ entries_of language text more

abbrev pub item_said : Language → List ℕ → ItemTree → Edit
item_said language text (Root s) = Rooted (body_of (entries_of language text s))
item_said language text (Extend ls l s) = Extends (map (label_bytes text) ls) (target_of text l) (body_of (entries_of language text s))
item_said language text (Delete l) = Deletes (target_of text l)
item_said language text (Omit l) = Omits (target_of text l)

-- the pairs of numbers that have no fault
abbrev pub both_numbers : Value × Value → List (ℕ × ℕ)
both_numbers (Ok x, Ok y) = (x, y) ∷ []
both_numbers _ = []

abbrev pub reserve_values : List ℕ → ReserveTree → Value × Value
reserve_values text r = (value_of text r.address, value_of text r.size)

abbrev pub any : List Bool → Bool
any [] = false
any (b ∷ bs) = b || any bs

-- A source is a plugin where any header says so.
unfoldable pub said : Language → List ℕ → SourceTree → Meaning
said language text s = record { plugin = any s.headers; reserves = flat_map both_numbers (map (reserve_values text) s.reserves); items = map (item_said language text) s.items }

-- ---- faults, in the order of the text

abbrev pub fault_list : Option Fault → List Fault
fault_list None = []
fault_list (Some f) = f ∷ []

abbrev pub cells_faults : List ℕ → Option Width → List CellTree → List Fault
cells_faults text w cs = flat_map (λ c. fault_list (cell_fault w (cell_of text c))) cs

abbrev pub portion_faults : Option (Value × Value) → List Fault
portion_faults None = []
portion_faults (Some x) = fault_list (fault_in x.0) ++ fault_list (fault_in x.1)

abbrev pub piece_faults : Language → List ℕ → PieceTree → List Fault
piece_faults language text (Quoted l) = string_faults language text l
piece_faults language text (Points l) = []
piece_faults language text (Pairs ls) = []
piece_faults language text (Cells cs) = cells_faults text (Some ThirtyTwo) cs
piece_faults language text (WideCells l cs) = fault_list (fault_in (width_said text l)) ++ cells_faults text (width_in (width_said text l)) cs
piece_faults language text (Includes w l p) = string_faults language text l ++ portion_faults (portion_values text p)

abbrev pub value_faults : Language → List ℕ → List PieceTree → List Fault
value_faults language text ps = flat_map (piece_faults language text) ps

unfoldable pub faults_in : Language → List ℕ → Statements → List Fault
faults_in language text End = []
faults_in language text (Sets ls n v more) = value_faults language text v ++ faults_in language text more
faults_in language text (Unsets n more) = faults_in language text more
faults_in language text (Holds ls n body more) = faults_in language text body ++ faults_in language text more
faults_in language text (Drops n more) = faults_in language text more

abbrev pub item_faults : Language → List ℕ → ItemTree → List Fault
item_faults language text (Root s) = faults_in language text s
item_faults language text (Extend ls l s) = faults_in language text s
item_faults language text (Delete l) = []
item_faults language text (Omit l) = []

abbrev pub reserve_faults : List ℕ → ReserveTree → List Fault
reserve_faults text r = fault_list (fault_in (value_of text r.address)) ++ fault_list (fault_in (value_of text r.size))

unfoldable pub faults_of : Language → List ℕ → SourceTree → List Fault
faults_of language text s = flat_map (reserve_faults text) s.reserves ++ flat_map (item_faults language text) s.items
