-- Why a text isn't whole with all that it takes in (dtc 1.6, Documentation/manual.txt, section 4.1).
use Rattle.std.specs.Prelude.{◌≡◌, ◌⊎◌, ℕ, ◌+◌, ◌<◌, Bool, true, List, [], ◌++◌, length}
use denote.Ref.{Bor}
use Rattle.dt_text.specs.Lexeme.Limits.{text_limit}
use Rattle.dt_text.specs.declared.include.inclusion.Found.{Found}
use Rattle.dt_text.specs.declared.include.inclusion.Incomplete.{Incomplete}
use Rattle.dt_text.specs.declared.include.inclusion.Incomplete.TheVariants.{NoFile, NoMemory, Syntax, TooDeep, TooLong}
use Rattle.dt_text.specs.declared.include.words.Inclusion.{Inclusion}
use Rattle.dt_text.specs.declared.include.words.Inclusion.TheVariants.{Binary, Source}
use Rattle.dt_text.specs.Include.Inclusion.{Includes, MayNest, Piece, named, plain, text_of}
use Rattle.dt_text.specs.Include.UserLines.{marker_line, plain_of}
use Rattle.dt_text.specs.Include.Words.{HasNext, IsBroken, IsOpen, Passes, name_of}

-- Reading a text of a path comes to a place in a file: so many files are open there, the user's own among them, and this is the
-- path of the innermost and what is left of it. Behind words it comes once all that they take in is read.
pub data Reaches (Finds : List ℕ → List ℕ → Found → Type 0) (path text : List ℕ) : ℕ → List ℕ → List ℕ → Type 0 where
  begin : Reaches Finds path text 1 path text
  into : {opened : ℕ} {beside left before rest : List ℕ} (name : Bor (List ℕ)) (found : Found) → Reaches Finds path text opened beside left
      → HasNext left (Source name) before rest → Finds beside name.now found → MayNest opened
      → Reaches Finds path text (opened + 1) found.path.items found.bytes.items
  behind_source : {opened : ℕ} {beside left before rest : List ℕ} {inner : List Piece} (name : Bor (List ℕ)) (found : Found)
      → Reaches Finds path text opened beside left → HasNext left (Source name) before rest → Finds beside name.now found → MayNest opened
      → Includes Finds true found.path.items found.bytes.items inner → Reaches Finds path text opened beside rest
  behind_binary : {opened : ℕ} {beside left before rest : List ℕ} (name : Bor (List ℕ)) (found : Found) → Reaches Finds path text opened beside left
      → HasNext left (Binary name) before rest → Finds beside (name_of (Binary name)) found → Reaches Finds path text opened beside rest

-- Words are next in the text that name a file.
pub record Names (left : List ℕ) (inclusion : Inclusion) : Type 0 where
  pub before : List ℕ
  pub rest : List ℕ
  pub next : HasNext left inclusion before rest

-- What is wrong at a place, where so many files are open, the innermost has this path, and this is left of it.
abbrev pub StopsAt : (List ℕ → List ℕ → Found → Type 0) → (List ℕ → List ℕ → Type 0) → ℕ → List ℕ → List ℕ → Incomplete → Type 0
StopsAt Finds Lacks opened beside left NoMemory = ⊥
StopsAt Finds Lacks opened beside left (NoFile name) = (inclusion : Inclusion) × Names left inclusion × (name.items ≡ name_of inclusion) × Lacks beside name.items
StopsAt Finds Lacks opened beside left TooDeep = (name : Bor (List ℕ)) × (found : Found) × Names left (Source name) × Finds beside name.now found × ¬ MayNest opened
StopsAt Finds Lacks opened beside left TooLong = ⊥
StopsAt Finds Lacks opened beside left Syntax = (at : List ℕ) × Passes left at × (IsBroken at ⊎ ((1 < opened) × IsOpen at))

-- Reading a text of a path comes to a place at which this is wrong.
pub record IsStopped (Finds : List ℕ → List ℕ → Found → Type 0) (Lacks : List ℕ → List ℕ → Type 0) (path text : List ℕ) (reason : Incomplete) : Type 0 where
  pub opened : ℕ
  pub beside : List ℕ
  pub left : List ℕ
  pub reached : Reaches Finds path text opened beside left
  pub wrong : StopsAt Finds Lacks opened beside left reason

-- What reading a text of a path puts is this, or begins with it.
pub data Puts (Finds : List ℕ → List ℕ → Found → Type 0) : List ℕ → List ℕ → List Piece → Type 0 where
  nothing : {path text : List ℕ} → Puts Finds path text []
  whole : {nested : Bool} {path text : List ℕ} {pieces : List Piece} → Includes Finds nested path text pieces → Puts Finds path text pieces
  before_words : {path text before rest : List ℕ} (inclusion : Inclusion) → HasNext text inclusion before rest → Puts Finds path text (plain before)
  file : {path text before rest : List ℕ} (name : Bor (List ℕ)) (found : Found) → HasNext text (Binary name) before rest → Finds path (name_of (Binary name)) found
      → Puts Finds path text (plain before ++ named found.bytes.items)
  inside : {path text before rest : List ℕ} {put : List Piece} (name : Bor (List ℕ)) (found : Found) → HasNext text (Source name) before rest
      → Finds path name.now found → Puts Finds found.path.items found.bytes.items put
      → Puts Finds path text (plain before ++ plain (marker_line 1 (plain_of found.path.items)) ++ put)
  past_source : {path text before rest : List ℕ} {inner put : List Piece} (name : Bor (List ℕ)) (found : Found) (line : ℕ) (file : List ℕ)
      → HasNext text (Source name) before rest → Finds path name.now found → Includes Finds true found.path.items found.bytes.items inner → Puts Finds path rest put
      → Puts Finds path text (plain before ++ plain (marker_line 1 (plain_of found.path.items)) ++ inner ++ plain (marker_line line file) ++ put)
  past_binary : {path text before rest : List ℕ} {put : List Piece} (name : Bor (List ℕ)) (found : Found) (words : List ℕ)
      → HasNext text (Binary name) before rest → before ++ words ++ rest ≡ text → Finds path (name_of (Binary name)) found → Puts Finds path rest put
      → Puts Finds path text (plain before ++ named found.bytes.items ++ plain words ++ put)

-- over 16 MiB
abbrev pub IsTooLong : List ℕ → Type 0
IsTooLong text = text_limit < length text

-- Why a text isn't whole. Nothing is said of want of memory.
abbrev pub Stops : (List ℕ → List ℕ → Found → Type 0) → (List ℕ → List ℕ → Type 0) → List ℕ → List ℕ → Incomplete → Type 0
Stops Finds Lacks path text NoMemory = Unit {0}
Stops Finds Lacks path text (NoFile name) = IsStopped Finds Lacks path text (NoFile name)
Stops Finds Lacks path text TooDeep = IsStopped Finds Lacks path text TooDeep
Stops Finds Lacks path text TooLong = (put : List Piece) × Puts Finds path text put × IsTooLong (text_of put)
Stops Finds Lacks path text Syntax = IsStopped Finds Lacks path text Syntax
