-- Why bytes are asked in vain that hold no tree (Devicetree Specification v0.4, chapter 5).
use Rattle.std.specs.Prelude.{◌≡◌, ℕ, List}
use Rattle.dt_tree.specs.TreeData.{TreeData}
use Rattle.dt_blob.specs.declared.error.BlobError.TheVariants.{NoMemory}
use Rattle.dt_blob.specs.Holds.{Holds}
use Rattle.dt_blob.specs.declared.query.error.QueryError.{QueryError}
use Rattle.dt_blob.specs.declared.query.error.QueryError.TheVariants.{Blob, NoNode, NoProperty}

-- the reader's refusal: where the bytes hold a tree, memory was wanted
abbrev pub IsUnheld : List ℕ → QueryError → Type 0
IsUnheld blob (Blob e) = (tree : TreeData) → Holds blob tree → e ≡ NoMemory
IsUnheld blob NoNode = ⊥
IsUnheld blob NoProperty = ⊥
