-- What `sort_bytes` answers: the blob of the tree that the bytes hold in order of its names (dtc's manual, `-s`), or why there is none.
use Rattle.std.specs.Prelude.{◌≡◌, ◌≤◌, ◌<◌, ◌⊎◌, List, ℕ, length, MatchResult}
use Rattle.dt_tree.specs.TreeData.{TreeData, IsTree}
use Rattle.dt_tree.specs.Sort.Sorted.{IsSortedTree}
use Rattle.dt_blob.specs.declared.error.BlobError.TheVariants.{TooLarge}
use Rattle.dt_blob.specs.Blob.{blob_of}
use Rattle.dt_blob.specs.Holds.{Holds}
use Rattle.dtman_engine.specs.BlobFaults.{blob_fault}
use Rattle.dtman_engine.specs.Dump.{IsUnread}
use Rattle.dtman_engine.specs.Fault.{Answer, FaultValue, fault_value, no_memory}
use Rattle.dtman_engine.specs.Limits.{blob_limit}

-- the blob of a tree in order of its names
pub record IsSortedBlob (tree : TreeData) (blob : List ℕ) : Type 0 where
  pub sorted : TreeData
  pub is : IsTree sorted
  pub order : IsSortedTree tree sorted
  pub blob_is : blob ≡ blob_of sorted
  pub fits : length blob ≤ blob_limit

-- which is too long
pub record HasLongSorted (tree : TreeData) : Type 0 where
  pub sorted : TreeData
  pub is : IsTree sorted
  pub order : IsSortedTree tree sorted
  pub long : blob_limit < length (blob_of sorted)

-- why a tree that is held isn't sorted: memory is wanted, or its blob is too long
abbrev pub CannotSort : TreeData → FaultValue → Type 0
CannotSort tree fault = (fault ≡ no_memory) ⊎ ((fault ≡ blob_fault TooLarge) × HasLongSorted tree)

-- the answer to a tree: its blob in order, or why there is none
abbrev pub SortsTree : TreeData → Answer → Type 0
SortsTree tree given = MatchResult given (λ blob. IsSortedBlob tree blob.items) (λ fault. CannotSort tree (fault_value fault))

-- the bytes hold a tree, and this is its blob in order
pub record IsSort (blob sorted : List ℕ) : Type 0 where
  pub tree : TreeData
  pub held : Holds blob tree
  pub sorted_is : IsSortedBlob tree sorted

pub record IsUnsorted (blob : List ℕ) (fault : FaultValue) : Type 0 where
  pub tree : TreeData
  pub held : Holds blob tree
  pub cannot : CannotSort tree fault

-- why there is no answer: the bytes are read as no tree, or its blob can't be made
abbrev pub IsSortRefusal : List ℕ → FaultValue → Type 0
IsSortRefusal blob fault = IsUnread blob fault ⊎ IsUnsorted blob fault
