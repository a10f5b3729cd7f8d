-- Which file has a name that a source gives: the name alone where it begins with a slash, else beside the file that names it, then
-- in the folders of the command line, in their order (dtc 1.6, Documentation/manual.txt, section 4.1, and dtc's `-i`).
-- A path is the bytes of its text; 47 is a slash.
use Rattle.std.specs.Prelude.{◌≡◌, ℕ, ◌-◌, ◌==◌, ◌⊎◌, Bool, true, false, ◌||◌, if◌then◌else◌, List, [], ◌∷◌, ◌++◌, length, map, slice_index, All, IsUtf8, Option, None, Some, Vec}
use Rattle.std.specs.List.{list_any}
use Rattle.std.specs.Global.{Global}
use Rattle.dt_text.specs.Lexeme.Bytes.{begins}
use Rattle.dt_text.specs.declared.include.inclusion.Found.{Found}

-- What looking for a file comes to: a file that has the name beside a path, or that there is none.
abbrev pub IsSought : (List ℕ → List ℕ → Found → Type 0) → (List ℕ → List ℕ → Type 0) → List ℕ → List ℕ → Option Found → Type 0
IsSought Finds Lacks beside name None = Lacks beside name
IsSought Finds Lacks beside name (Some found) = Finds beside name found

-- What reading at a path comes to: the bytes of a file, or that there is none.
abbrev pub IsRead : (List ℕ → List ℕ → Type 0) → (List ℕ → Type 0) → List ℕ → Option (Vec ℕ Global) → Type 0
IsRead Reads Lacks path None = Lacks path
IsRead Reads Lacks path (Some bytes) = Reads path bytes.items

-- ---- the paths of a name

-- whether a name can stand behind a folder as it is: the folder is empty, or it ends in a slash
abbrev pub is_closed : List ℕ → Bool
is_closed folder = length folder == 0 || slice_index folder (length folder - 1) == 47

-- a name in a folder, behind a slash where the folder is not closed
abbrev pub in_folder : List ℕ → List ℕ → List ℕ
in_folder folder name = if is_closed folder then folder ++ name else folder ++ 47 ∷ name

-- The folder of a path is all up to its last slash, with it; where no slash stands in the path it is empty.
pub record IsFolder (path folder : List ℕ) : Type 0 where
  pub name : List ℕ
  pub path_is : path ≡ folder ++ name
  pub no_slash : list_any (λ c. c == 47) name ≡ false
  pub closed : is_closed folder ≡ true

-- The paths that are tried for a name, in order: where it begins with a slash it alone; else it in the folder of the path beside
-- which it is looked for, then in each of the folders.
pub data AreTried (folders : List (List ℕ)) (beside name : List ℕ) : List (List ℕ) → Type 0 where
  alone : begins 47 name ≡ true → AreTried folders beside name (name ∷ [])
  within : (own : List ℕ) → begins 47 name ≡ false → IsFolder beside own
      → AreTried folders beside name (map (λ folder. in_folder folder name) (own ∷ folders))

-- ---- the file at these paths

-- A path names no file: it is no text, or no file was read there.
abbrev pub NamesNone : (List ℕ → Type 0) → List ℕ → Type 0
NamesNone Lacks path = ¬ (IsUtf8 path) ⊎ Lacks path

-- Of paths in order the first is taken at which a file was read: it is a text, and those before it name none.
pub record IsFirst (Reads : List ℕ → List ℕ → Type 0) (Lacks : List ℕ → Type 0) (paths : List (List ℕ)) (found : Found) : Type 0 where
  pub before : List (List ℕ)
  pub behind : List (List ℕ)
  pub paths_are : paths ≡ before ++ found.path.items ∷ behind
  pub none_before : All (NamesNone Lacks) before
  pub text : IsUtf8 found.path.items
  pub read : Reads found.path.items found.bytes.items

-- A file has a name beside a path: it is the first of those that are tried.
abbrev pub FindsWithin : (List ℕ → List ℕ → Type 0) → (List ℕ → Type 0) → List (List ℕ) → List ℕ → List ℕ → Found → Type 0
FindsWithin Reads Lacks folders beside name found = (paths : List (List ℕ)) × AreTried folders beside name paths × IsFirst Reads Lacks paths found

-- None has it: each path that is tried names none.
abbrev pub LacksWithin : (List ℕ → Type 0) → List (List ℕ) → List ℕ → List ℕ → Type 0
LacksWithin Lacks folders beside name = (paths : List (List ℕ)) × AreTried folders beside name paths × All (NamesNone Lacks) paths
