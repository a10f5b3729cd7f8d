-- What `set` answers: the blob of the tree that the bytes hold *with property* (`Changes`), all else as it was, or why there is none.
use Rattle.std.specs.Prelude.{◌≡◌, ◌≤◌, ◌<◌, ◌⊎◌, ℕ, false, List, length, Vec, Result, MatchResult}
use Rattle.std.specs.declared.alloc.Global.{Global}
use Rattle.dt_tree.specs.Changes.{with_nodes, with_property}
use Rattle.dt_tree.specs.PathMap.{path_map, tree_map}
use Rattle.dt_tree.specs.TreeData.{TreeData, IsTree}
use Rattle.dt_blob.specs.declared.error.BlobError.TheVariants.{NoMemory, TooLarge}
use Rattle.dt_blob.specs.Blob.{blob_of, limit}
use Rattle.dt_blob.specs.Holds.{Holds}
use Rattle.dt_blob.specs.declared.query.error.QueryError.{QueryError}
use Rattle.dt_blob.specs.declared.query.error.QueryError.TheVariants.{Blob, NoNode, NoProperty}
use Rattle.dt_blob.specs.Query.Unheld.{IsUnheld}

-- the tree with the property
pub record IsWithProperty (tree : TreeData) (path : List (List ℕ)) (name value : List ℕ) (changed : TreeData) : Type 0 where
  pub is : IsTree changed
  pub map : tree_map changed ≡ with_nodes (with_property path name value) (tree_map tree)

-- and its blob
pub record IsBlobWith (tree : TreeData) (path : List (List ℕ)) (name value blob : List ℕ) : Type 0 where
  pub changed : TreeData
  pub with_it : IsWithProperty tree path name value changed
  pub blob_is : blob ≡ blob_of changed
  pub fits : length blob ≤ limit

-- which is too long
pub record HasLongBlobWith (tree : TreeData) (path : List (List ℕ)) (name value : List ℕ) : Type 0 where
  pub changed : TreeData
  pub with_it : IsWithProperty tree path name value changed
  pub long : limit < length (blob_of changed)

-- why a tree has no such blob: memory is wanted, it is too long, or no node has the path
abbrev pub CannotSet : TreeData → List (List ℕ) → List ℕ → List ℕ → QueryError → Type 0
CannotSet tree path name value (Blob e) = (e ≡ NoMemory) ⊎ ((e ≡ TooLarge) × HasLongBlobWith tree path name value)
CannotSet tree path name value NoNode = (path_map tree.root).has path ≡ false
CannotSet tree path name value NoProperty = ⊥

abbrev pub AnswersSet : TreeData → List (List ℕ) → List ℕ → List ℕ → Result (Vec ℕ Global) QueryError → Type 0
AnswersSet tree path name value given = MatchResult given (λ blob. IsBlobWith tree path name value blob.items) (CannotSet tree path name value)

-- the bytes hold a tree, and this is its blob with the property
pub record IsSetIn (blob : List ℕ) (path : List (List ℕ)) (name value changed : List ℕ) : Type 0 where
  pub tree : TreeData
  pub held : Holds blob tree
  pub blob_with : IsBlobWith tree path name value changed

pub record IsSetInVain (blob : List ℕ) (path : List (List ℕ)) (name value : List ℕ) (e : QueryError) : Type 0 where
  pub tree : TreeData
  pub held : Holds blob tree
  pub cannot : CannotSet tree path name value e

abbrev pub IsSetRefusal : List ℕ → List (List ℕ) → List ℕ → List ℕ → QueryError → Type 0
IsSetRefusal blob path name value e = IsUnheld blob e ⊎ IsSetInVain blob path name value e
