-- What the calls that change a tree make of its path map. Each changes what it names; all else is as it was.
use Rattle.std.specs.Prelude.{◌≡◌, ℕ, Bool, true, false, not, ◌&&◌, ◌||◌, ◌⊎◌, List, [], ◌∷◌, ◌++◌, filter, length, Option, Some, None, if◌then◌else◌, nat_lt}
use Rattle.std.specs.Option.{option_map}
use Rattle.std.specs.Str.{bytes_eq}
use Rattle.dt_tree.specs.declared.error.TreeError.{TreeError}
use Rattle.dt_tree.specs.declared.error.TreeError.TheVariants.{NoMemory, DuplicateNode, TooDeep, NoSuchPath}
use Rattle.dt_tree.specs.Limits.{depth_limit}
use Rattle.dt_tree.specs.PathMap.{PathMap, TreeMap, is_listed}
use Rattle.dt_tree.specs.Sound.{is_among}

-- the two paths are the same
abbrev pub same_path : List (List ℕ) → List (List ℕ) → Bool
same_path [] [] = true
same_path [] (y ∷ ys) = false
same_path (x ∷ xs) [] = false
same_path (x ∷ xs) (y ∷ ys) = bytes_eq x y && same_path xs ys

-- the second path is the first, or below it
abbrev pub is_within : List (List ℕ) → List (List ℕ) → Bool
is_within [] q = true
is_within (x ∷ xs) [] = false
is_within (x ∷ xs) (y ∷ ys) = bytes_eq x y && is_within xs ys

-- the names with k: in its place, or last where it is new
abbrev pub with_name : List ℕ → List (List ℕ) → List (List ℕ)
with_name k ns = if is_among k ns then ns else ns ++ k ∷ []

abbrev pub without_name : List ℕ → List (List ℕ) → List (List ℕ)
without_name k ns = filter (λ n. not (bytes_eq n k)) ns

-- the node at the path has the property k with the value v, in its place or last
abbrev pub with_property : {V : Type 0} → List (List ℕ) → List ℕ → V → PathMap V → PathMap V
with_property path k v m = record {
  has = m.has;
  properties = λ q. if same_path path q then option_map (with_name k) (m.properties q) else m.properties q;
  children = m.children;
  value = λ q j. if same_path path q && bytes_eq k j then Some v else m.value q j;
}

-- the node at the path has no property k
abbrev pub without_property : {V : Type 0} → List (List ℕ) → List ℕ → PathMap V → PathMap V
without_property path k m = record {
  has = m.has;
  properties = λ q. if same_path path q then option_map (without_name k) (m.properties q) else m.properties q;
  children = m.children;
  value = λ q j. if same_path path q && bytes_eq k j then None else m.value q j;
}

-- the node at the path has one child more, its last, with nothing in it
abbrev pub with_child : {V : Type 0} → List (List ℕ) → List ℕ → PathMap V → PathMap V
with_child path k m = record {
  has = λ q. same_path (path ++ k ∷ []) q || m.has q;
  properties = λ q. if same_path (path ++ k ∷ []) q then Some [] else m.properties q;
  children = λ q. if same_path (path ++ k ∷ []) q then Some [] else (if same_path path q then option_map (λ ns. ns ++ k ∷ []) (m.children q) else m.children q);
  value = m.value;
}

-- the node at the path has no child k, and nothing is below that path
abbrev pub without_child : {V : Type 0} → List (List ℕ) → List ℕ → PathMap V → PathMap V
without_child path k m = record {
  has = λ q. not (is_within (path ++ k ∷ []) q) && m.has q;
  properties = λ q. if is_within (path ++ k ∷ []) q then None else m.properties q;
  children = λ q. if is_within (path ++ k ∷ []) q then None else (if same_path path q then option_map (without_name k) (m.children q) else m.children q);
  value = λ q j. if is_within (path ++ k ∷ []) q then None else m.value q j;
}

-- the tree with its nodes changed
abbrev pub with_nodes : (PathMap (List ℕ) → PathMap (List ℕ)) → TreeMap → TreeMap
with_nodes change t = record { nodes = change t.nodes; reserves = t.reserves; boot_cpu = t.boot_cpu }

-- why a change at a path is refused
abbrev pub path_fault : {V : Type 0} → PathMap V → List (List ℕ) → Option TreeError
path_fault m path = if m.has path then None else Some NoSuchPath

-- and why a child can't be added there: at most one of the three is so
abbrev pub child_fault : {V : Type 0} → PathMap V → List (List ℕ) → List ℕ → Option TreeError
child_fault m path k =
    if not (m.has path) then Some NoSuchPath
    else (if is_listed k (m.children path) then Some DuplicateNode
    else (if nat_lt (length path) depth_limit then None else Some TooDeep))

-- the error of a call with this fault: want of memory comes after all faults
abbrev pub IsRefusal : Option TreeError → TreeError → Type 0
IsRefusal fault e = (fault ≡ Some e) ⊎ ((fault ≡ None) × (e ≡ NoMemory))
