-- What `copy_bytes` answers: the blob of the tree that the bytes hold, laid out anew (Devicetree Specification v0.4, chapter 5), or
-- why there is none.
use Rattle.std.specs.Prelude.{◌≡◌, ◌≤◌, ◌<◌, ◌⊎◌, ℕ, List, length, MatchResult}
use Rattle.dt_tree.specs.TreeData.{TreeData}
use Rattle.dt_blob.specs.declared.error.BlobError.TheVariants.{TooLarge}
use Rattle.dt_blob.specs.Blob.{blob_of}
use Rattle.dt_blob.specs.Holds.{Holds}
use Rattle.dtman_engine.specs.BlobFaults.{blob_fault}
use Rattle.dtman_engine.specs.Dump.{IsUnread}
use Rattle.dtman_engine.specs.Fault.{Answer, FaultValue, fault_value, no_memory}
use Rattle.dtman_engine.specs.Limits.{blob_limit}

-- the blob of a tree that the bytes hold
pub record IsCopy (blob copy : List ℕ) : Type 0 where
  pub tree : TreeData
  pub held : Holds blob tree
  pub copy_is : copy ≡ blob_of tree
  pub fits : length copy ≤ blob_limit

-- why a blob of so many bytes isn't written: memory is wanted, or it is too long
abbrev pub CannotWrite : ℕ → FaultValue → Type 0
CannotWrite size fault = (fault ≡ no_memory) ⊎ ((fault ≡ blob_fault TooLarge) × (blob_limit < size))

-- why a tree that is held has no copy
abbrev pub CannotCopy : TreeData → FaultValue → Type 0
CannotCopy tree fault = CannotWrite (length (blob_of tree)) fault

-- the answer to a tree: its blob, or why there is none
abbrev pub CopiesTree : TreeData → Answer → Type 0
CopiesTree tree given =
    MatchResult given (λ copy. (copy.items ≡ blob_of tree) × (length copy.items ≤ blob_limit)) (λ fault. CannotCopy tree (fault_value fault))

-- a tree that the bytes hold has no copy
pub record IsHeldInVain (blob : List ℕ) (fault : FaultValue) : Type 0 where
  pub tree : TreeData
  pub held : Holds blob tree
  pub cannot : CannotCopy tree fault

-- why there is no copy: the bytes are read as no tree, or its blob can't be made
abbrev pub IsCopyRefusal : List ℕ → FaultValue → Type 0
IsCopyRefusal blob fault = IsUnread blob fault ⊎ IsHeldInVain blob fault
