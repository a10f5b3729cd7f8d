-- What is answered to a tree that is to be written.
use Rattle.std.specs.Prelude.{◌≡◌, ◌≤◌, ℕ, length, Vec, Result, MatchResult}
use Rattle.std.specs.declared.alloc.Global.{Global}
use Rattle.dt_tree.specs.TreeData.{TreeData, IsTree}
use Rattle.dt_blob.specs.Blob.{blob_of, limit, Refuses}
use Rattle.dt_blob.specs.declared.query.error.QueryError.{QueryError}
use Rattle.dt_blob.specs.declared.query.error.QueryError.TheVariants.{Blob, NoNode, NoProperty}

-- the writer's refusal
abbrev pub IsUnwritten : ℕ → QueryError → Type 0
IsUnwritten size (Blob e) = Refuses size e
IsUnwritten size NoNode = ⊥
IsUnwritten size NoProperty = ⊥

-- the blob of a tree, or why there is none
abbrev pub Writes : TreeData → Result (Vec ℕ Global) QueryError → Type 0
Writes tree given =
    IsTree tree × MatchResult given (λ blob. (blob.items ≡ blob_of tree) × (length blob.items ≤ limit)) (IsUnwritten (length (blob_of tree)))
