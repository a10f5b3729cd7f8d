-- What readers return, seen as what the grammar reads.
use Rattle.std.specs.Prelude.{List, Option, Result, Vec, map, option_map}
use Rattle.std.specs.Borrow.{Bor}
use Rattle.std.specs.Global.{Global}
use Rattle.dt_text.specs.declared.lexeme.lexeme.Fault.{Fault}
use Rattle.dt_text.specs.declared.lexeme.lexeme.Lexeme.{Lexeme}
use Rattle.dt_text.specs.declared.lexeme.lexeme.ReadError.{ReadError}
use Rattle.dt_source.specs.TreeMeaning.Syntax.{Target, Piece, Entry, Body, Edit}
use Rattle.dt_source.specs.declared.parts.Parts.{Parts}
use Rattle.dt_source.specs.declared.reading.Read.{Read}
use Rattle.dt_source.specs.declared.tree.Reference.{Reference}
use Rattle.dt_source.specs.declared.tree.Statement.{Statement}
use Rattle.dt_source.specs.declared.tree.Item.{Item}
use Rattle.dt_source.specs.Tree.{target_view, view, views, item_view}
use Rattle.dt_source.specs.Reading.Several.{Part, Reads}
use Rattle.dt_source.specs.Reading.Values.{built}
use Rattle.dt_source.specs.Reading.Loops.{into}

-- What was read is put behind the parts that were there.
abbrev pub Pushes : Parts → Parts → Result (Option Fault × Bor (List Lexeme)) ReadError → Part (List Piece) → Type 0
Pushes old new result read = Reads (λ x. (built new, x.0, x.1.now)) result (into (built old) read)

abbrev pub ReadsStatement : Result (Read (Option Statement)) ReadError → Part (Option (Entry (List Piece))) → Type 0
ReadsStatement result read = Reads (λ x. (option_map view x.found, x.fault, x.rest.now)) result read

abbrev pub ReadsBody : Result (Read (Vec Statement Global)) ReadError → Part (List (Entry (List Piece))) → Type 0
ReadsBody result read = Reads (λ x. (map view x.found.items, x.fault, x.rest.now)) result read

-- the statements of an item's body
abbrev pub ReadsItemBody : Result (Read (Vec Statement Global)) ReadError → Part (Body (List Piece)) → Type 0
ReadsItemBody result read = Reads (λ x. (views x.found.items, x.fault, x.rest.now)) result read

abbrev pub ReadsItem : Result (Read (Option Item)) ReadError → Part (Option Edit) → Type 0
ReadsItem result read = Reads (λ x. (option_map item_view x.found, x.fault, x.rest.now)) result read

abbrev pub ReadsTarget : Result (Read Reference) ReadError → Part Target → Type 0
ReadsTarget result read = Reads (λ x. (target_view x.found, x.fault, x.rest.now)) result read
