-- Reading the statements of a body, and the values of its properties.
use Rattle.std.specs.Prelude.{ℕ, zero, suc, Bool, true, false, List, [], ◌∷◌, ◌++◌, ◌||◌, length, map, Option, Some, None, Result, Ok, Err, if◌then◌else◌}
use Rattle.dt_text.specs.declared.lexeme.language.Language.{Language}
use Rattle.dt_text.specs.declared.lexeme.language.Language.TheVariants.{Profile, Dtc}
use Rattle.dt_text.specs.declared.lexeme.lexeme.Lexeme.{Lexeme}
use Rattle.dt_text.specs.declared.lexeme.lexeme.Fault.{Fault}
use Rattle.dt_text.specs.declared.lexeme.lexeme.Refusal.{Refusal}
use Rattle.dt_text.specs.declared.lexeme.lexeme.Kind.{Kind}
use Rattle.dt_text.specs.declared.lexeme.lexeme.Kind.TheVariants.{Bits, DeleteNode, DeleteProperty, IncludeBinary, Label, Name, Literal, Character, Text, Reference, PathReference, Pair, Semicolon, Brace, EndBrace, Equals, Comma, Less, Greater, Square, EndSquare, Paren}
use Rattle.dt_text.specs.declared.expression.elements.Width.{Width}
use Rattle.dt_text.specs.declared.expression.elements.Width.TheVariants.{ThirtyTwo}
use Rattle.dt_source.specs.declared.cell.Cell.{Cell}
use Rattle.dt_source.specs.declared.cell.Cell.TheVariants as cells
use Rattle.dt_text.specs.Expression.Values.{literal_of}
use Rattle.dt_text.specs.Expression.Reading.{◌>>=◌, Read, syntax_at, too_deep}
use Rattle.dt_text.specs.Expression.ReadingExpressions.{primary_at}
use Rattle.dt_source.specs.Reading.Several.{earlier, Part, many}
use Rattle.dt_source.specs.Reading.Files.{included_at}
use Rattle.dt_source.specs.TreeMeaning.Syntax.{Piece, Plain, PathOf, Entry, Defines, Undefines, Child, Removes, body_of}
use Rattle.dt_source.specs.Strings.{string_bytes, string_faults, pair_byte}
use Rattle.dt_source.specs.Pieces.{target_of, width_at, width_in, fault_in, cell_fault, cells_pieces, joined}
use Rattle.dt_source.specs.Marks.{is_label, is_mark, omits, labels_in}
use Rattle.dt_source.specs.Words.{label_bytes, name_bytes, concat}
use Rattle.dt_source.specs.Order.{first_of}

-- ---- labels and names

-- the labels at the front, and what follows them
unfoldable pub labels_at : List Lexeme → List Lexeme × List Lexeme
labels_at [] = ([], [])
labels_at (t ∷ ts) = if is_label t.kind then (t ∷ (labels_at ts).0, (labels_at ts).1) else ([], t ∷ ts)

-- the labels and `/omit-if-no-ref/` at the front, and what follows them
unfoldable pub marks_at : List Lexeme → List Lexeme × List Lexeme
marks_at [] = ([], [])
marks_at (t ∷ ts) = if is_mark t.kind then (t ∷ (marks_at ts).0, (marks_at ts).1) else ([], t ∷ ts)

-- ---- cells

abbrev pub element_at : ℕ → List ℕ → List Lexeme → Read (Option Cell)
element_at place text ts = do
  x ← primary_at text ts
  Ok (Some (cells.Element place x.0), x.1)

abbrev pub cell_by : List ℕ → Kind → Lexeme → List Lexeme → Read (Option Cell)
cell_by text Greater t ts = Ok (None, ts)
cell_by text Literal t ts = element_at t.start text (t ∷ ts)
cell_by text Character t ts = element_at t.start text (t ∷ ts)
cell_by text Paren t ts = element_at t.start text (t ∷ ts)
cell_by text Reference t ts = Ok (Some (cells.Reference t), ts)
cell_by text PathReference t ts = Ok (Some (cells.Reference t), ts)
cell_by text Label t ts = Ok (Some cells.Label, ts)
cell_by text _ t ts = Err (syntax_at (t ∷ ts))

-- an element, a reference, a label, or the end of the cells
unfoldable pub cell_at : List ℕ → List Lexeme → Read (Option Cell)
cell_at text [] = Err (syntax_at [])
cell_at text (t ∷ ts) = cell_by text t.kind t ts

abbrev pub fault_of_cell : Option Width → Option Cell → Option Fault
fault_of_cell w None = None
fault_of_cell w (Some c) = cell_fault w c

abbrev pub cell_step : List ℕ → Option Width → List Lexeme → Part (Option Cell)
cell_step text w ts = cell_at text ts >>= λ x. Ok (x.0, fault_of_cell w x.0, x.1)

-- what has no state
abbrev pub stays : {A : Type 0} → Unit {0} → A → Unit {0}
stays s a = tt

unfoldable pub cells_at : List ℕ → Option Width → List Lexeme → Part (List Piece)
cells_at text w ts = many stays (λ s ts. cell_step text w ts) (suc (length ts)) tt ts >>= λ y. Ok (cells_pieces text w y.0, y.1, y.2)

-- ---- byte strings

abbrev pub pair_by : List ℕ → Kind → Lexeme → List Lexeme → Part (Option (List ℕ))
pair_by text EndSquare t ts = Ok (None, None, ts)
pair_by text Pair t ts = Ok (Some (pair_byte text t ∷ []), None, ts)
pair_by text Label t ts = Ok (Some [], None, ts)
pair_by text _ t ts = Err (syntax_at (t ∷ ts))

-- a byte, a label, or the end of the byte string
abbrev pub pair_at : List ℕ → List Lexeme → Part (Option (List ℕ))
pair_at text [] = Err (syntax_at [])
pair_at text (t ∷ ts) = pair_by text t.kind t ts

unfoldable pub pairs_at : List ℕ → List Lexeme → Part (List ℕ)
pairs_at text ts = many stays (λ s ts. pair_at text ts) (suc (length ts)) tt ts >>= λ y. Ok (concat y.0, y.1, y.2)

-- ---- pieces of a value

abbrev pub square_at : List ℕ → List Lexeme → Part (List Piece)
square_at text ts = pairs_at text ts >>= λ y. Ok (Plain y.0 ∷ [], y.1, y.2)

abbrev pub less_by : List ℕ → Option Width → Option Fault → Kind → Lexeme → List Lexeme → Part (List Piece)
less_by text w f Less t ts = cells_at text w ts >>= λ y. Ok (y.0, earlier f y.1, y.2)
less_by text w f _ t ts = Err (syntax_at (t ∷ ts))

-- cells of a width whose fault is this
abbrev pub less_at : List ℕ → Option Width → Option Fault → List Lexeme → Part (List Piece)
less_at text w f [] = Err (syntax_at [])
less_at text w f (t ∷ ts) = less_by text w f t.kind t ts

abbrev pub bits_by : List ℕ → Kind → Lexeme → List Lexeme → Part (List Piece)
bits_by text Literal t ts = let w = width_at t (literal_of text t) in less_at text (width_in w) (fault_in w) ts
bits_by text _ t ts = Err (syntax_at (t ∷ ts))

-- the width behind /bits/, and the cells
abbrev pub bits_at : List ℕ → List Lexeme → Part (List Piece)
bits_at text [] = Err (syntax_at [])
bits_at text (t ∷ ts) = bits_by text t.kind t ts

abbrev pub string_at : Language → List ℕ → Lexeme → List Lexeme → Part (List Piece)
string_at language text t ts = Ok (Plain (string_bytes language text t) ∷ [], first_of (string_faults language text t), ts)

abbrev pub path_at : List ℕ → Lexeme → List Lexeme → Part (List Piece)
path_at text t ts = Ok (PathOf (target_of text t) ∷ [], None, ts)

abbrev pub piece_by : Language → List ℕ → Kind → Lexeme → List Lexeme → Part (List Piece)
piece_by language text Text t ts = string_at language text t ts
piece_by language text Reference t ts = path_at text t ts
piece_by language text PathReference t ts = path_at text t ts
piece_by language text Square t ts = square_at text ts
piece_by language text Less t ts = cells_at text (Some ThirtyTwo) ts
piece_by language text Bits t ts = bits_at text ts
piece_by language text IncludeBinary t ts = included_at language text t.start ts
piece_by language text _ t ts = Err (syntax_at (t ∷ ts))

unfoldable pub piece_at : Language → List ℕ → List Lexeme → Part (List Piece)
piece_at language text [] = Err (syntax_at [])
piece_at language text (t ∷ ts) = piece_by language text t.kind t ts

-- a piece, with labels before and after it, which are dropped
unfoldable pub placed_at : Language → List ℕ → List Lexeme → Part (List Piece)
placed_at language text ts = piece_at language text (labels_at ts).1 >>= λ y. Ok (y.0, y.1, (labels_at y.2).1)

abbrev pub comma_by : Language → List ℕ → Kind → Lexeme → List Lexeme → Part (Option (List Piece))
comma_by language text Comma t ts = placed_at language text ts >>= λ y. Ok (Some y.0, y.1, y.2)
comma_by language text _ t ts = Ok (None, None, t ∷ ts)

-- a further piece, where a comma stands before it
abbrev pub comma_at : Language → List ℕ → List Lexeme → Part (Option (List Piece))
comma_at language text [] = Ok (None, None, [])
comma_at language text (t ∷ ts) = comma_by language text t.kind t ts

abbrev pub concat_pieces : List (List Piece) → List Piece
concat_pieces [] = []
concat_pieces (p ∷ ps) = p ++ concat_pieces ps

-- one piece, and further ones behind commas
unfoldable pub pieces_at : Language → List ℕ → List Lexeme → Part (List Piece)
pieces_at language text ts = do
  x ← placed_at language text ts
  y ← many stays (λ s ts. comma_at language text ts) (suc (length x.2)) tt x.2
  Ok (x.0 ++ concat_pieces y.0, earlier x.1 y.1, y.2)

unfoldable pub value_at : Language → List ℕ → List Lexeme → Part (List Piece)
value_at language text ts = pieces_at language text ts >>= λ y. Ok (joined y.0, y.1, y.2)

-- ---- statements

abbrev pub semicolon_kind : Kind → Lexeme → List Lexeme → Result (List Lexeme) Refusal
semicolon_kind Semicolon t ts = Ok ts
semicolon_kind _ t ts = Err (syntax_at (t ∷ ts))

-- what follows a semicolon
abbrev pub semicolon_at : List Lexeme → Result (List Lexeme) Refusal
semicolon_at [] = Err (syntax_at [])
semicolon_at (t ∷ ts) = semicolon_kind t.kind t ts

-- what was read, where a semicolon follows it
abbrev pub ended_by : {A : Type 0} → A → Option Fault → List Lexeme → Part A
ended_by a f ts = semicolon_at ts >>= λ r. Ok (a, f, r)

abbrev pub Inner : Type 0
Inner = Lexeme → List Lexeme → Part (List (Entry (List Piece)))

-- what follows a name: the end of a property without value, a value, or a body. Where `nodes` is true no property may stand.
abbrev pub named_by : Language → List ℕ → Inner → (nodes omitted : Bool) → List (List ℕ) → List ℕ → Kind → Lexeme → List Lexeme → Part (Option (Entry (List Piece)))
named_by language text inner false omitted labels name Semicolon t ts = Ok (Some (Defines name []), None, ts)
named_by language text inner false omitted labels name Equals t ts = do
  v ← value_at language text ts
  ended_by (Some (Defines name v.0)) v.1 v.2
named_by language text inner nodes omitted labels name Brace t ts = do
  b ← inner t ts
  ended_by (Some (Child omitted labels name (body_of b.0))) b.1 b.2
named_by language text inner nodes omitted labels name _ t ts = Err (syntax_at (t ∷ ts))

abbrev pub named_at : Language → List ℕ → Inner → (nodes omitted : Bool) → List (List ℕ) → List ℕ → List Lexeme → Part (Option (Entry (List Piece)))
named_at language text inner nodes omitted labels name [] = Err (syntax_at [])
named_at language text inner nodes omitted labels name (t ∷ ts) = named_by language text inner nodes omitted labels name t.kind t ts

abbrev pub name_by : List ℕ → Kind → Lexeme → List Lexeme → Read (List ℕ)
name_by text Name t ts = Ok (name_bytes text t, ts)
name_by text _ t ts = Err (syntax_at (t ∷ ts))

abbrev pub name_at : List ℕ → List Lexeme → Read (List ℕ)
name_at text [] = Err (syntax_at [])
name_at text (t ∷ ts) = name_by text t.kind t ts

-- the name of what is deleted
abbrev pub deleted_at : List ℕ → (List ℕ → Entry (List Piece)) → List Lexeme → Part (Option (Entry (List Piece)))
deleted_at text entry ts = name_at text ts >>= λ x. ended_by (Some (entry x.0)) None x.1

-- the end of a body, or a deletion
abbrev pub bare_by : List ℕ → Bool → Kind → Lexeme → List Lexeme → Part (Option (Entry (List Piece)))
bare_by text nodes EndBrace t ts = Ok (None, None, ts)
bare_by text false DeleteProperty t ts = deleted_at text Undefines ts
bare_by text nodes DeleteNode t ts = deleted_at text Removes ts
bare_by text nodes _ t ts = Err (syntax_at (t ∷ ts))

-- a deletion behind marks
abbrev pub marked_by : List ℕ → Bool → Kind → Lexeme → List Lexeme → Part (Option (Entry (List Piece)))
marked_by text closed EndBrace t ts = Err (syntax_at (t ∷ ts))
marked_by text closed k t ts = bare_by text closed k t ts

-- What has no name: nothing of it follows marks in the profile, and a deletion alone in dtc's language.
abbrev pub nameless : Language → List ℕ → Bool → List Lexeme → Kind → Lexeme → List Lexeme → Part (Option (Entry (List Piece)))
nameless Profile text nodes [] k t ts = bare_by text nodes k t ts
nameless Profile text nodes (m ∷ ms) k t ts = Err (syntax_at (t ∷ ts))
nameless Dtc text nodes [] k t ts = bare_by text nodes k t ts
nameless Dtc text nodes (m ∷ ms) k t ts = marked_by text (nodes || omits (m ∷ ms)) k t ts

abbrev pub begun_by : Language → List ℕ → Inner → Bool → List Lexeme → Kind → Lexeme → List Lexeme → Part (Option (Entry (List Piece)))
begun_by language text inner nodes marks Name t ts = named_at language text inner (nodes || omits marks) (omits marks) (map (label_bytes text) (labels_in marks)) (name_bytes text t) ts
begun_by language text inner nodes marks k t ts = nameless language text nodes marks k t ts

abbrev pub begun_at : Language → List ℕ → Inner → Bool → List Lexeme → List Lexeme → Part (Option (Entry (List Piece)))
begun_at language text inner nodes marks [] = Err (syntax_at [])
begun_at language text inner nodes marks (t ∷ ts) = begun_by language text inner nodes marks t.kind t ts

-- a statement, or the end of the body
unfoldable pub statement_at : Language → List ℕ → Inner → Bool → List Lexeme → Part (Option (Entry (List Piece)))
statement_at language text inner nodes ts = let m = marks_at ts in begun_at language text inner nodes m.0 m.1

-- no property follows a node or the deletion of one
abbrev pub after : Bool → Entry (List Piece) → Bool
after nodes (Defines name value) = nodes
after nodes (Undefines name) = nodes
after nodes (Child omitted labels name body) = true
after nodes (Removes name) = true

abbrev pub statements_at : Language → List ℕ → Inner → List Lexeme → Part (List (Entry (List Piece)))
statements_at language text inner ts = many after (statement_at language text inner) (suc (length ts)) false ts

-- a body whose brace was read, at most this deep
unfoldable pub body_below : Language → List ℕ → ℕ → Lexeme → List Lexeme → Part (List (Entry (List Piece)))
body_below language text zero t ts = Err (too_deep t)
body_below language text (suc depth) t ts = statements_at language text (body_below language text depth) ts

unfoldable pub body_at : Language → List ℕ → ℕ → List Lexeme → Part (List (Entry (List Piece)))
body_at language text depth ts = statements_at language text (body_below language text depth) ts

-- what follows a name behind marks, with bodies at most this deep
abbrev pub named_below : Language → List ℕ → ℕ → Bool → List Lexeme → List ℕ → List Lexeme → Part (Option (Entry (List Piece)))
named_below language text depth nodes marks name ts = named_at language text (body_below language text depth) nodes (omits marks) (map (label_bytes text) (labels_in marks)) name ts
