-- What `get` answers: the value at a path under a name, by the path map of the tree that the bytes hold, or why there is none.
use Rattle.std.specs.Prelude.{◌≡◌, ◌⊎◌, ℕ, Bool, true, false, List, Some, None, Vec, Result, MatchResult}
use Rattle.std.specs.declared.alloc.Global.{Global}
use Rattle.dt_tree.specs.PathMap.{PathMap, path_map}
use Rattle.dt_tree.specs.TreeData.{TreeData}
use Rattle.dt_blob.specs.declared.error.BlobError.TheVariants.{NoMemory}
use Rattle.dt_blob.specs.Holds.{Holds}
use Rattle.dt_blob.specs.declared.query.error.QueryError.{QueryError}
use Rattle.dt_blob.specs.declared.query.error.QueryError.TheVariants.{Blob, NoNode, NoProperty}
use Rattle.dt_blob.specs.Query.Unheld.{IsUnheld}

-- why a tree has no answer: memory is wanted, no node has the path, or the node hasn't the property
abbrev pub CannotGet : PathMap (List ℕ) → List (List ℕ) → List ℕ → QueryError → Type 0
CannotGet m path name (Blob e) = e ≡ NoMemory
CannotGet m path name NoNode = m.has path ≡ false
CannotGet m path name NoProperty = (m.has path ≡ true) × (m.value path name ≡ None)

-- the answer to a tree: the value, or why there is none
abbrev pub AnswersGet : TreeData → List (List ℕ) → List ℕ → Result (Vec ℕ Global) QueryError → Type 0
AnswersGet tree path name given =
    MatchResult given (λ value. (path_map tree.root).value path name ≡ Some value.items) (CannotGet (path_map tree.root) path name)

-- the bytes hold a tree that has this value there
pub record IsValueIn (blob : List ℕ) (path : List (List ℕ)) (name value : List ℕ) : Type 0 where
  pub tree : TreeData
  pub held : Holds blob tree
  pub there : (path_map tree.root).value path name ≡ Some value

-- the bytes hold a tree that has no answer
pub record IsNotIn (blob : List ℕ) (path : List (List ℕ)) (name : List ℕ) (e : QueryError) : Type 0 where
  pub tree : TreeData
  pub held : Holds blob tree
  pub cannot : CannotGet (path_map tree.root) path name e

abbrev pub IsGetRefusal : List ℕ → List (List ℕ) → List ℕ → QueryError → Type 0
IsGetRefusal blob path name e = IsUnheld blob e ⊎ IsNotIn blob path name e
