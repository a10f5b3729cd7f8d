-- What a path is: the root's is `/`, any other is one or more times `/` and a name (Devicetree Specification v0.4, section 2.2.3).
use Rattle.std.specs.Prelude.{ℕ, Bool, false, ◌&&◌, ◌==◌, if◌then◌else◌, List, [], ◌∷◌, ◌++◌, length}
use Rattle.std.specs.List.{slice_split}
use Rattle.dt_tree.specs.Name.{are_names}

-- the byte of `/`
abbrev pub is_slash : ℕ → Bool
is_slash b = b == 47

-- what stands between the slashes behind the first one
abbrev pub names_behind : List ℕ → List (List ℕ)
names_behind rest = if length rest == 0 then [] else slice_split is_slash rest

-- the names of the node's path
abbrev pub path_names : List ℕ → List (List ℕ)
path_names [] = []
path_names (b ∷ rest) = names_behind rest

abbrev pub is_path : List ℕ → Bool
is_path [] = false
is_path (b ∷ rest) = is_slash b && are_names (names_behind rest)

-- each name behind a slash
abbrev pub behind_slashes : List (List ℕ) → List ℕ
behind_slashes [] = []
behind_slashes (n ∷ ns) = 47 ∷ (n ++ behind_slashes ns)

-- the text of the path with these names
abbrev pub path_text : List (List ℕ) → List ℕ
path_text [] = 47 ∷ []
path_text (n ∷ ns) = behind_slashes (n ∷ ns)

-- a text of names behind slashes as a path
abbrev pub text_or_root : List ℕ → List ℕ
text_or_root text = if length text == 0 then 47 ∷ [] else text
