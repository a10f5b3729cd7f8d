-- What readers return and what filling leaves, seen as what the grammar reads and as what is filled in.
use Rattle.std.specs.Prelude.{◌≡◌, ℕ, Bool, List, Option, Result, Ok, Err, MatchResult, Vec, map}
use Rattle.std.specs.Global.{Global}
use Rattle.std.specs.Vec.Iter.{into_iter_items}
use Rattle.std.specs.declared.vec.IntoIter.{IntoIter}
use Rattle.dt_text.specs.declared.lexeme.binary.Binary.{Binary}
use Rattle.dt_text.specs.declared.lexeme.language.Language.{Language}
use Rattle.dt_text.specs.declared.lexeme.lexeme.Lexeme.{Lexeme}
use Rattle.dt_text.specs.declared.lexeme.lexeme.ReadError.{ReadError}
use Rattle.dt_text.specs.declared.lexeme.lexeme.Refusal.{Refusal}
use Rattle.dt_source.specs.TreeMeaning.Syntax.{Body, Edit, Entry, Piece}
use Rattle.dt_source.specs.declared.reading.Read.{Read}
use Rattle.dt_source.specs.declared.tree.Item.{Item}
use Rattle.dt_source.specs.declared.tree.Part.{Part as ValuePart}
use Rattle.dt_source.specs.declared.tree.Statement.{Statement}
use Rattle.dt_source.specs.Filled.{Filled, file_at, filled_piece}
use Rattle.dt_source.specs.Tree.{item_view, part_view, view, views}
use Rattle.dt_source.specs.Reading.Bodies.{begun_at, body_below, statement_at}
use Rattle.dt_source.specs.Reading.Filling.{put_filled}
use Rattle.dt_source.specs.Reading.Several.{Part, Reads}
use Rattle.dt_source.specs.Reading.Values.{Built}

-- ---- what is read
abbrev pub ReadsValue : Result (Read (Vec ValuePart Global)) ReadError → Part (List Piece) → Type 0
ReadsValue result read = Reads (λ x. (map part_view x.found.items, x.fault, x.rest.now)) result read

abbrev pub ReadsItems : Result (Read (Vec Item Global)) ReadError → Part (List Edit) → Type 0
ReadsItems result read = Reads (λ x. (map item_view x.found.items, x.fault, x.rest.now)) result read

-- a statement, with bodies at most this deep; and behind marks
abbrev pub statement_below : Language → List ℕ → ℕ → Bool → List Lexeme → Part (Option (Entry (List Piece)))
statement_below language text depth nodes ts = statement_at language text (body_below language text depth) nodes ts

abbrev pub begun_below : Language → List ℕ → ℕ → Bool → List Lexeme → List Lexeme → Part (Option (Entry (List Piece)))
begun_below language text depth nodes marks ts = begun_at language text (body_below language text depth) nodes marks ts

-- ---- what is filled in
-- the next file is taken, or why it isn't the one that is wanted
abbrev pub TakesFile : ℕ → IntoIter Binary Global → IntoIter Binary Global → Result (Vec ℕ Global) Refusal → Type 0
TakesFile at old new result =
    MatchResult result (λ bytes. file_at at (into_iter_items old) ≡ Ok (bytes.items, into_iter_items new)) (λ r. file_at at (into_iter_items old) ≡ Err r)

-- What was there, seen by view, is filled in from the files, and those behind them are left; or it is refused for its reason.
abbrev pub Fills : {X A : Type 0} → (X → A) → (A → List Binary → Filled A) → X → X → IntoIter Binary Global → IntoIter Binary Global → Result Unit ReadError → Type 0
Fills view filled old new files left result = Reads (λ _. (view new, into_iter_items left)) result (filled (view old) (into_iter_items files))

-- a part filled in, behind those that are there
abbrev pub filled_behind : Piece → Built → List Binary → Filled Built
filled_behind piece b files = put_filled b (filled_piece piece files)

-- how lists in memory are seen
abbrev pub pieces_in : Vec ValuePart Global → List Piece
pieces_in value = map part_view value.items

abbrev pub entries_in : Vec Statement Global → List (Entry (List Piece))
entries_in body = map view body.items

abbrev pub body_in : Vec Statement Global → Body (List Piece)
body_in body = views body.items

abbrev pub edits_in : Vec Item Global → List Edit
edits_in items = map item_view items.items
