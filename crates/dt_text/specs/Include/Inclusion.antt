-- What a source takes in, and the files that it names (dtc 1.6, Documentation/manual.txt, section 4.1).
use Rattle.std.specs.Prelude.{◌≡◌, ℕ, ◌+◌, ◌≤◌, List, [], ◌∷◌, ◌++◌, length, map, Bool, true, false}
use denote.Ref.{Bor}
use Rattle.dt_text.specs.declared.lexeme.binary.Binary.{Binary}
use Rattle.dt_text.specs.declared.include.inclusion.Found.{Found}
use Rattle.dt_text.specs.declared.include.inclusion.Whole.{Whole}
use Rattle.dt_text.specs.declared.include.words.Inclusion.TheVariants as inclusions
use Rattle.dt_text.specs.Include.UserLines.{UserPlace, first_of, marker_of, place_behind}
use Rattle.dt_text.specs.Include.Words.{HasNext, MayEnd, name_of}

-- whether a file may be taken in where so many are open, the user's own among them: then 200 at most are nested in that one
abbrev pub MayNest : ℕ → Type 0
MayNest opened = opened ≤ 200

-- ---- what a whole text is made of

-- Bytes of the text, or the bytes of the file that is named by the `/incbin/` which stands there.
pub data Piece : Type 0 where
  Plain : List ℕ → Piece
  Named : List ℕ → Piece

abbrev pub plain : List ℕ → List Piece
plain text = Plain text ∷ []

abbrev pub named : List ℕ → List Piece
named bytes = Named bytes ∷ []

-- the text
abbrev pub text_of : List Piece → List ℕ
text_of [] = []
text_of (Plain text ∷ pieces) = text ++ text_of pieces
text_of (Named bytes ∷ pieces) = text_of pieces

-- a file that is named, and where its `/incbin/` stands in the text
pub record Stored : Type 0 where
  pub at : ℕ
  pub bytes : List ℕ

-- the files that are named, where the first piece stands at this place of the text
abbrev pub files_from : ℕ → List Piece → List Stored
files_from at [] = []
files_from at (Plain text ∷ pieces) = files_from (at + length text) pieces
files_from at (Named bytes ∷ pieces) = record { at = at; bytes = bytes } ∷ files_from at pieces

-- ---- the text with all that it takes in

-- the place behind words that stand behind a text, which begins at a place
abbrev pub behind_words : UserPlace → List ℕ → List ℕ → UserPlace
behind_words place before words = place_behind (place_behind place before) words

-- What a text comes to that stands at a place of a file of this path, the user's line and file. The flag says that the file is nested:
-- that another takes it in. A source stands between line
-- markers, of its first line and of the place behind the words, in place of these; a binary file is named, and its words stay.
-- `Finds` says which files have a name beside a path.
pub data IncludesFrom (Finds : List ℕ → List ℕ → Found → Type 0) : Bool → List ℕ → UserPlace → List ℕ → List Piece → Type 0 where
  itself : {nested : Bool} {path text : List ℕ} {place : UserPlace} → MayEnd nested text → IncludesFrom Finds nested path place text (plain text)
  source : {nested : Bool} {path text before : List ℕ} {inner more : List Piece} {place : UserPlace} (name : Bor (List ℕ)) (words rest : List ℕ) (found : Found)
      → HasNext text (inclusions.Source name) before rest → before ++ words ++ rest ≡ text → Finds path name.now found
      → IncludesFrom Finds true found.path.items (first_of found.path.items) found.bytes.items inner
      → IncludesFrom Finds nested path (behind_words place before words) rest more
      → IncludesFrom Finds nested path place text
      (plain before ++ plain (marker_of (first_of found.path.items)) ++ inner ++ plain (marker_of (behind_words place before words)) ++ more)
  binary : {nested : Bool} {path text before : List ℕ} {more : List Piece} {place : UserPlace} (name : Bor (List ℕ)) (words rest : List ℕ) (found : Found)
      → HasNext text (inclusions.Binary name) before rest → before ++ words ++ rest ≡ text → Finds path (name_of (inclusions.Binary name)) found
      → IncludesFrom Finds nested path (behind_words place before words) rest more
      → IncludesFrom Finds nested path place text (plain before ++ named found.bytes.items ++ plain words ++ more)

-- What the text of a file of this path comes to, from its first line on, nested or not.
abbrev pub Includes : (List ℕ → List ℕ → Found → Type 0) → Bool → List ℕ → List ℕ → List Piece → Type 0
Includes Finds nested path text = IncludesFrom Finds nested path (first_of path) text

abbrev pub stored_of : Binary → Stored
stored_of kept = record { at = kept.at; bytes = kept.bytes.items }

-- These pieces are the whole text, and the files that it names.
pub record IsWhole (whole : Whole) (pieces : List Piece) : Type 0 where
  pub text : whole.text.items ≡ text_of pieces
  pub files : map stored_of whole.binaries.items ≡ files_from 0 pieces

-- This is what a text of a path comes to.
pub record IsIncluded (Finds : List ℕ → List ℕ → Found → Type 0) (path text : List ℕ) (whole : Whole) : Type 0 where
  pub pieces : List Piece
  pub includes : Includes Finds false path text pieces
  pub is : IsWhole whole pieces
