-- What cells and the pieces of a value say (Devicetree Specification v0.4, section 6.3).
use Rattle.std.specs.Prelude.{ℕ, ◌+◌, ◌-◌, List, [], ◌∷◌, ◌++◌, Option, Some, None, Result, Ok, Err, slice_range, flat_map}
use Rattle.dt_text.specs.declared.lexeme.lexeme.Lexeme.{Lexeme}
use Rattle.dt_text.specs.declared.lexeme.lexeme.Fault.{Fault}
use Rattle.dt_text.specs.declared.lexeme.lexeme.FaultKind.TheVariants.{BadBits}
use Rattle.dt_text.specs.declared.lexeme.lexeme.Kind.{Kind}
use Rattle.dt_text.specs.declared.lexeme.lexeme.Kind.TheVariants.{PathReference}
use Rattle.dt_text.specs.Lexeme.Fronts.{path_of}
use Rattle.dt_text.specs.declared.expression.elements.Width.{Width}
use Rattle.dt_text.specs.declared.expression.elements.Width.TheVariants.{ThirtyTwo}
use Rattle.dt_source.specs.declared.cell.Cell.{Cell}
use Rattle.dt_source.specs.declared.cell.Cell.TheVariants as cells
use Rattle.dt_text.specs.Expression.Values.{Value}
use Rattle.dt_text.specs.Expression.Element.{bytes_in, width_of, low_bytes, element}
use Rattle.dt_source.specs.TreeMeaning.Syntax.{Target, OfLabel, OfPath, Piece, Plain, PhandleOf, Stored}

abbrev pub target_by : List ℕ → Lexeme → Kind → Target
target_by text l PathReference = OfPath (path_of (slice_range text (l.start + 2) (l.end - 1)))
target_by text l _ = OfLabel (slice_range text (l.start + 1) l.end)

-- what a reference names: behind & a label, or a path in braces
abbrev pub target_of : List ℕ → Lexeme → Target
target_of text l = target_by text l l.kind

-- the width that this literal names, or its fault
abbrev pub lawful : Lexeme → Option Width → Result Width Fault
lawful l (Some w) = Ok w
lawful l None = Err (record { kind = BadBits; place = l.start })

abbrev pub width_at : Lexeme → Value → Result Width Fault
width_at l (Err f) = Err f
width_at l (Ok n) = lawful l (width_of n)

abbrev pub width_in : Result Width Fault → Option Width
width_in (Ok w) = Some w
width_in (Err f) = None

abbrev pub fault_in : {A : Type 0} → Result A Fault → Option Fault
fault_in (Ok x) = None
fault_in (Err f) = Some f

-- the bytes of an element of this width
abbrev pub element_pieces : Width → Value → List Piece
element_pieces w (Ok n) = Plain (low_bytes (bytes_in w) n) ∷ []
element_pieces w (Err f) = []

-- What a cell adds to the value, in cells of this width: nothing where they have no lawful one.
abbrev pub cell_pieces : List ℕ → Option Width → Cell → List Piece
cell_pieces text (Some w) (cells.Element place v) = element_pieces w (element w place v)
cell_pieces text (Some w) (cells.Reference l) = PhandleOf (target_of text l) ∷ []
cell_pieces text (Some w) cells.Label = []
cell_pieces text None c = []

-- A reference stands in cells of 32 bits alone.
abbrev pub reference_fault : Width → Lexeme → Option Fault
reference_fault ThirtyTwo l = None
reference_fault _ l = Some (record { kind = BadBits; place = l.start })

-- Where cells have no lawful width, their elements are neither too large nor their references in the wrong place.
abbrev pub cell_fault : Option Width → Cell → Option Fault
cell_fault (Some w) (cells.Element place v) = fault_in (element w place v)
cell_fault (Some w) (cells.Reference l) = reference_fault w l
cell_fault None (cells.Element place v) = fault_in v
cell_fault None (cells.Reference l) = None
cell_fault _ cells.Label = None

abbrev pub cells_pieces : List ℕ → Option Width → List Cell → List Piece
cells_pieces text w cs = flat_map (cell_pieces text w) cs

-- ---- parts of files (dtc 1.6, Documentation/dts-format.txt: `/incbin/`)

-- the part that offset and length name, where both are numbers
abbrev pub stored : ℕ → Value → Value → List Piece
stored at (Ok offset) (Ok len) = Stored at offset (Some len) ∷ []
stored at _ _ = []

-- Without an offset and a length all of the file is the part.
abbrev pub portion_pieces : ℕ → Option (Value × Value) → List Piece
portion_pieces at None = Stored at 0 None ∷ []
portion_pieces at (Some x) = stored at x.0 x.1

-- ---- neighbouring bytes are joined, and empty ones dropped

abbrev pub join_bytes : List ℕ → List Piece → List Piece
join_bytes [] ps = ps
join_bytes (b ∷ bs) (Plain cs ∷ ps) = Plain (b ∷ bs ++ cs) ∷ ps
join_bytes (b ∷ bs) ps = Plain (b ∷ bs) ∷ ps

abbrev pub joined : List Piece → List Piece
joined [] = []
joined (Plain bs ∷ ps) = join_bytes bs (joined ps)
joined (p ∷ ps) = p ∷ joined ps
