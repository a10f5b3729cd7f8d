-- What was read of words that name a file, and what a text comes to while its files are open.
use Rattle.std.specs.Prelude.{◌≡◌, ◌⊎◌, ℕ, zero, suc, ◌+◌, ◌-◌, ◌<◌, ◌≤◌, ◌==◌, Bool, true, false, if◌then◌else◌, max, length, map, List, [], ◌∷◌, ◌++◌, Option, None, Some, drop, take}
use denote.Ref.{Bor}
use Rattle.dt_text.specs.Lexeme.Bytes.{begins}
use Rattle.dt_text.specs.Lexeme.Fronts.{Front, closes}
use Rattle.dt_text.specs.Lexeme.Gaps.{IsGap}
use Rattle.dt_text.specs.declared.lexeme.language.Language.TheVariants.{Dtc}
use Rattle.dt_text.specs.declared.include.bytes.Class.TheVariants.{Word}
use Rattle.dt_text.specs.declared.include.inclusion.Found.{Found}
use Rattle.dt_text.specs.declared.include.inclusion.Frame.{Frame}
use Rattle.dt_text.specs.declared.include.inclusion.Whole.{Whole}
use Rattle.dt_text.specs.declared.include.inclusion.Incomplete.{Incomplete}
use Rattle.dt_text.specs.declared.include.inclusion.Incomplete.TheVariants.{NoFile, NoMemory, Syntax, TooDeep, TooLong}
use Rattle.dt_text.specs.declared.include.inclusion.Turn.{Turn}
use Rattle.dt_text.specs.declared.include.inclusion.Turn.TheVariants.{Again, End, Into}
use Rattle.dt_text.specs.declared.include.words.Inclusion.{Inclusion}
use Rattle.dt_text.specs.declared.include.words.Inclusion.TheVariants as inclusions
use Rattle.dt_text.specs.declared.include.words.Next.{Next}
use Rattle.dt_text.specs.declared.include.words.Next.TheVariants as nexts
use Rattle.dt_text.specs.declared.include.words.Piece.TheVariants as pieces
use Rattle.dt_text.specs.declared.include.words.Piece as words
use Rattle.dt_text.specs.declared.include.words.Stand.{Stand}
use Rattle.dt_text.specs.Include.Bytes.{run_of}
use Rattle.dt_text.specs.Include.Inclusion.{Includes, IncludesFrom, MayNest, Piece, files_from, named, plain, stored_of, text_of}
use Rattle.dt_text.specs.Include.Private.Places.{place_of}
use Rattle.dt_text.specs.Include.Shortfall.{IsTooLong, Puts, StopsAt}
use Rattle.dt_text.specs.Include.UserLines.{UserPlace, first_of, marker_line, marker_of, place_behind, plain_of}
use Rattle.dt_text.specs.Include.Words.{Bracketed, HasNext, IsBroken, IsOpen, MayEnd, NamesFile, Passes, Quoted, Sign, name_of}

-- ---- a word that was read, and what is left behind it

-- where a gap ends, or that it doesn't
abbrev pub SkipsTo : List ℕ → Bool → List ℕ → Type 0
SkipsTo s true rest = IsGap Dtc s rest
SkipsTo s false rest = (t : List ℕ) → IsGap Dtc s t → ⊥

abbrev pub SignAt : ℕ → List ℕ → Option (Unit {0}) → List ℕ → Type 0
SignAt c s None rest = (t : List ℕ) → Sign c s t → ⊥
SignAt c s (Some u) rest = Sign c s rest

abbrev pub QuotedAt : List ℕ → Option (Bor (List ℕ)) → List ℕ → Type 0
QuotedAt s None rest = (name t : List ℕ) → Quoted s name t → ⊥
QuotedAt s (Some name) rest = Quoted s name.now rest

abbrev pub BinaryAt : List ℕ → Option (Bor (List ℕ)) → List ℕ → Type 0
BinaryAt s None rest = (name t : List ℕ) → Bracketed s name t → ⊥
BinaryAt s (Some name) rest = Bracketed s name.now rest

-- ---- what is told of words that break off

abbrev pub IsStringLen : List ℕ → Option ℕ → Type 0
IsStringLen s None = begins 34 s ≡ true → Front (closes 34 true) s None
IsStringLen s (Some n) = (begins 34 s ≡ true) × Front (closes 34 true) s (Some n)

-- A string that ends has so many bytes, else a run of letters and digits, else one sign.
pub data IsWordLen (s : List ℕ) (n : ℕ) : Type 0 where
  string : IsStringLen s (Some n) → IsWordLen s n
  other : IsStringLen s None → n ≡ max (run_of Word s) 1 → IsWordLen s n

-- What is left of words behind their keyword is told by its first word; where nothing is left, the keyword is told.
abbrev pub IsTold : List ℕ → List ℕ → List ℕ → Stand → Type 0
IsTold s keyword [] stand = (stand.from.now ≡ s) × (stand.rest.now ≡ drop (length keyword) s)
IsTold s keyword (c ∷ left) stand = (stand.from.now ≡ c ∷ left) × ((n : ℕ) × IsWordLen (c ∷ left) n × (stand.rest.now ≡ drop n (c ∷ left)))

-- ---- what stands at the front of a text, and what is next in it

abbrev pub IsPiece : List ℕ → words.Piece → Type 0
IsPiece s (pieces.Words inclusion stand) = (stand.from.now ≡ s) × NamesFile s inclusion stand.rest.now
IsPiece s (pieces.Broken stand) = IsBroken s
IsPiece s (pieces.Passed rest) = (length rest.now < length s) × ((t : List ℕ) → Passes rest.now t → Passes s t)
IsPiece s (pieces.Open stand) = IsOpen s

-- a text is broken off here
abbrev pub BreaksAt : (nested : Bool) → List ℕ → Type 0
BreaksAt nested s = IsBroken s ⊎ ((nested ≡ true) × IsOpen s)

abbrev pub IsNext : (nested : Bool) → List ℕ → Next → Type 0
IsNext nested s (nexts.Words inclusion stand) = Passes s stand.from.now × NamesFile stand.from.now inclusion stand.rest.now
IsNext nested s (nexts.Broken stand) = (t : List ℕ) × Passes s t × BreaksAt nested t
IsNext nested s nexts.Nothing = MayEnd nested s

-- what is next where something is open to the text's end
abbrev pub IsOpenEnd : (nested : Bool) → Next → Type 0
IsOpenEnd nested (nexts.Words inclusion stand) = ⊥
IsOpenEnd nested (nexts.Broken stand) = nested ≡ true
IsOpenEnd nested nexts.Nothing = nested ≡ false

-- ---- while files are open

-- What is put, behind what was there: of the text and of the files that it names.
pub record Adds (old new : Whole) (put : List Piece) : Type 0 where
  pub text : new.text.items ≡ old.text.items ++ text_of put
  pub files : map stored_of new.binaries.items ≡ map stored_of old.binaries.items ++ files_from (length old.text.items) put

-- the words of a file that were read last, or nothing
abbrev pub words_of : Frame → List ℕ
words_of frame = drop frame.words.start (take frame.words.end frame.bytes.items)

-- the place behind them, where what is left of the file begins
abbrev pub place_on : Frame → UserPlace
place_on frame = place_behind (place_of frame.line) (words_of frame)

-- what stands for words: they themselves where they stay, else a line marker of the place behind them
abbrev pub stands_for : Bool → List ℕ → UserPlace → List ℕ
stands_for true words place = words
stands_for false words place = marker_of place

-- the same of the words that were read last
abbrev pub passed_text : Frame → List ℕ
passed_text frame = stands_for frame.stays (words_of frame) (place_on frame)

abbrev pub PassedBy : ℕ → List ℕ → List Piece → Type 0
PassedBy zero text put = put ≡ []
PassedBy (suc n) text put = put ≡ plain text

-- what is put for the words that were read last, if any were
abbrev pub Behind : Frame → List Piece → Type 0
Behind frame put = PassedBy frame.words.end (passed_text frame) put

-- what is left of an open file comes to
pub record ComesTo (Finds : List ℕ → List ℕ → Found → Type 0) (frame : Frame) (said : List Piece) : Type 0 where
  pub passed : List Piece
  pub more : List Piece
  pub behind : Behind frame passed
  pub rest : IncludesFrom Finds frame.nested frame.path.items (place_on frame) (drop frame.words.end frame.bytes.items) more
  pub said_is : said ≡ passed ++ more

-- what is left of all open files comes to, from the innermost on, which stands last
unfoldable pub Completes : (List ℕ → List ℕ → Found → Type 0) → List Frame → List Piece → Type 0
Completes Finds [] said = said ≡ []
Completes Finds (frame ∷ frames) said = (inner own : List Piece) × Completes Finds frames inner × ComesTo Finds frame own × (said ≡ inner ++ own)

-- the line marker of the first line of a file that is taken in
abbrev pub first_marker : Found → List Piece
first_marker found = plain (marker_line 1 (plain_of found.path.items))

-- What a turn puts, so that the file comes to that and what it and the file that is taken in still come to.
abbrev pub TurnsTo : (List ℕ → List ℕ → Found → Type 0) → Frame → Frame → Turn → List Piece → Type 0
TurnsTo Finds old new End put = ComesTo Finds old put
TurnsTo Finds old new Again put = (own : List Piece) → ComesTo Finds new own → ComesTo Finds old (put ++ own)
TurnsTo Finds old new (Into found) put = (inner own : List Piece) → Includes Finds true found.path.items found.bytes.items inner → ComesTo Finds new own
    → ComesTo Finds old (put ++ first_marker found ++ inner ++ own)

-- What the next turn begins with: what is put for the words that were read last, and the place that is reached there.
pub record IsPassed (old new : Frame) (whole grown : Whole) : Type 0 where
  pub put : List Piece
  pub behind : Behind old put
  pub line_is : place_of new.line ≡ place_on old
  pub grown_is : Adds whole grown put
  pub path_is : new.path ≡ old.path
  pub nested_is : new.nested ≡ old.nested
  pub bytes_is : new.bytes ≡ old.bytes
  pub words_is : new.words ≡ old.words

-- whether words stay in the text
abbrev pub stay : Inclusion → Bool
stay (inclusions.Source name) = false
stay (inclusions.Binary name) = true

-- what is put for the file that words name
abbrev pub IsTaken : (List ℕ → List ℕ → Found → Type 0) → List ℕ → Inclusion → Whole → Whole → Turn → Type 0
IsTaken Finds beside inclusion whole grown End = ⊥
IsTaken Finds beside (inclusions.Source name) whole grown Again = ⊥
IsTaken Finds beside (inclusions.Binary name) whole grown Again = (found : Found) × Finds beside (name_of (inclusions.Binary name)) found × Adds whole grown (named found.bytes.items)
IsTaken Finds beside (inclusions.Source name) whole grown (Into found) = Finds beside name.now found × Adds whole grown []
IsTaken Finds beside (inclusions.Binary name) whole grown (Into found) = ⊥

-- The file that a turn leads to is the innermost one.
pub record Enters (frames : List Frame) (frame : Frame) (found : Found) (opened : List Frame) : Type 0 where
  pub inner : Frame
  pub path_is : inner.path ≡ found.path
  pub nested_is : inner.nested ≡ true
  pub bytes_is : inner.bytes ≡ found.bytes
  pub words_is : inner.words.end ≡ 0
  pub line_is : place_of inner.line ≡ first_of found.path.items
  pub opened_is : opened ≡ (frames ++ frame ∷ []) ++ inner ∷ []

-- the files that are open behind a turn
abbrev pub Goes : List Frame → Frame → Turn → List Frame → Type 0
Goes frames frame End opened = opened ≡ frames
Goes frames frame Again opened = opened ≡ frames ++ frame ∷ []
Goes frames frame (Into found) opened = Enters frames frame found opened

-- what is put behind a turn: the first line of a file that is taken in is marked
abbrev pub first_put : Turn → List Piece
first_put End = []
first_put Again = []
first_put (Into found) = first_marker found

-- ---- where a turn goes on in a file, and why it doesn't

-- A file goes on behind its next words, whose file was found.
pub record Advances (Finds : List ℕ → List ℕ → Found → Type 0) (old new : Frame) (inclusion : Inclusion) (found : Found) : Type 0 where
  pub before : List ℕ
  pub next : HasNext (drop old.words.end old.bytes.items) inclusion before (drop new.words.end new.bytes.items)
  pub finds : Finds old.path.items (name_of inclusion) found
  pub path_is : new.path ≡ old.path
  pub nested_is : new.nested ≡ old.nested

abbrev pub Moves : (List ℕ → List ℕ → Found → Type 0) → Frame → Frame → Turn → Type 0
Moves Finds old new End = Unit {0}
Moves Finds old new Again = (name : Bor (List ℕ)) × (found : Found) × Advances Finds old new (inclusions.Binary name) found
Moves Finds old new (Into found) = (name : Bor (List ℕ)) × Advances Finds old new (inclusions.Source name) found

-- why the file of a name isn't there
abbrev pub IsMissing : (List ℕ → List ℕ → Type 0) → List ℕ → List ℕ → Incomplete → Type 0
IsMissing Lacks beside name NoMemory = Unit {0}
IsMissing Lacks beside name (NoFile told) = (told.items ≡ name) × Lacks beside told.items
IsMissing Lacks beside name TooDeep = ⊥
IsMissing Lacks beside name TooLong = ⊥
IsMissing Lacks beside name Syntax = ⊥

-- why one file more isn't open where so many are
abbrev pub Exceeds : ℕ → Incomplete → Type 0
Exceeds opened NoMemory = Unit {0}
Exceeds opened (NoFile told) = ⊥
Exceeds opened TooDeep = ¬ MayNest opened
Exceeds opened TooLong = ⊥
Exceeds opened Syntax = ⊥

-- why it doesn't go on behind a turn
abbrev pub IsStuck : ℕ → Turn → Incomplete → Type 0
IsStuck opened End reason = ⊥
IsStuck opened Again reason = reason ≡ NoMemory
IsStuck opened (Into found) reason = Exceeds opened reason

-- A turn opens a file only where it may nest.
abbrev pub Nests : ℕ → Turn → Type 0
Nests opened End = Unit {0}
Nests opened Again = Unit {0}
Nests opened (Into found) = MayNest opened

-- The reason is told, or want of memory.
abbrev pub IsKept : Incomplete → Incomplete → Type 0
IsKept reason told = (told ≡ reason) ⊎ (told ≡ NoMemory)

-- What is put of an open file is this, or begins with it: first what stands for its last words, then more.
pub data PutsFrom (Finds : List ℕ → List ℕ → Found → Type 0) (frame : Frame) : List Piece → Type 0 where
  not_yet : PutsFrom Finds frame []
  behind_words : (passed more : List Piece) → Behind frame passed → Puts Finds frame.path.items (drop frame.words.end frame.bytes.items) more
      → PutsFrom Finds frame (passed ++ more)

-- What a turn puts is put of the file, and so is what follows in it or in the file that is taken in.
abbrev pub PutsTo : (List ℕ → List ℕ → Found → Type 0) → Frame → Frame → Turn → List Piece → Type 0
PutsTo Finds old new End put = PutsFrom Finds old put
PutsTo Finds old new Again put = PutsFrom Finds old put × ((more : List Piece) → PutsFrom Finds new more → PutsFrom Finds old (put ++ more))
PutsTo Finds old new (Into found) put = PutsFrom Finds old put
    × ((more : List Piece) → Puts Finds found.path.items found.bytes.items more → PutsFrom Finds old (put ++ first_marker found ++ more))
    × ((inner more : List Piece) → Includes Finds true found.path.items found.bytes.items inner → PutsFrom Finds new more
    → PutsFrom Finds old (put ++ first_marker found ++ inner ++ more))

-- bytes that are wanting to the two that each turn puts at least: where no words were read yet, the file's first line marker has them
abbrev pub wanting : Frame → ℕ
wanting frame = if frame.words.end == 0 then 2 else 2 - length (passed_text frame)

-- Behind words nothing is wanting.
abbrev pub IsPast : Frame → Turn → Type 0
IsPast new End = Unit {0}
IsPast new Again = wanting new ≡ 0
IsPast new (Into found) = wanting new ≡ 0

-- a turn, by what was put before it and behind it
pub record IsTurned (Finds : List ℕ → List ℕ → Found → Type 0) (old : Frame) (whole : Whole) (new : Frame) (grown : Whole) (turn : Turn) : Type 0 where
  pub put : List Piece
  pub adds : Adds whole grown put
  pub turns : TurnsTo Finds old new turn put
  pub puts : PutsTo Finds old new turn put
  pub enough : 2 ≤ length (text_of put) + wanting old
  pub past : IsPast new turn

-- what is wrong in a file, however many are open, where this text was put before
abbrev pub StopsIn : (List ℕ → List ℕ → Found → Type 0) → (List ℕ → List ℕ → Type 0) → Frame → List ℕ → Incomplete → Type 0
StopsIn Finds Lacks frame text NoMemory = Unit {0}
StopsIn Finds Lacks frame text (NoFile name) = (opened : ℕ) → StopsAt Finds Lacks opened frame.path.items (drop frame.words.end frame.bytes.items) (NoFile name)
StopsIn Finds Lacks frame text TooDeep = ⊥
StopsIn Finds Lacks frame text TooLong = (put : List Piece) × PutsFrom Finds frame put × IsTooLong (text ++ text_of put)
StopsIn Finds Lacks frame text Syntax = (opened : ℕ) → (frame.nested ≡ true → 1 < opened) → StopsAt Finds Lacks opened frame.path.items (drop frame.words.end frame.bytes.items) Syntax
