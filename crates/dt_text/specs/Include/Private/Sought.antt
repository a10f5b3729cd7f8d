-- What comes of reading at paths.
use Rattle.std.specs.Prelude.{◌≡◌, ℕ, List, All, IsUtf8, Option, None, Some}
use Rattle.dt_text.specs.declared.include.inclusion.Found.{Found}
use Rattle.dt_text.specs.Include.Searching.{IsFirst, NamesNone}

-- The file was read at this path.
pub record IsReadAt (Reads : List ℕ → List ℕ → Type 0) (path : List ℕ) (found : Found) : Type 0 where
  pub path_is : found.path.items ≡ path
  pub text : IsUtf8 path
  pub read : Reads path found.bytes.items

-- what comes of one path: the file that was read there, or that it names none
abbrev pub Answers : (List ℕ → List ℕ → Type 0) → (List ℕ → Type 0) → List ℕ → Option Found → Type 0
Answers Reads Lacks path None = NamesNone Lacks path
Answers Reads Lacks path (Some found) = IsReadAt Reads path found

-- what comes of paths in order: the first file, or that none of them names one
abbrev pub AnswersFirst : (List ℕ → List ℕ → Type 0) → (List ℕ → Type 0) → List (List ℕ) → Option Found → Type 0
AnswersFirst Reads Lacks paths None = All (NamesNone Lacks) paths
AnswersFirst Reads Lacks paths (Some found) = IsFirst Reads Lacks paths found
