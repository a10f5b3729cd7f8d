-- What `dump_bytes` answers: the canonical source of the tree that the bytes hold, or why there is none.
use Rattle.std.specs.Prelude.{◌≡◌, ◌≤◌, ◌<◌, ◌⊎◌, ℕ, List, length, Some, None, MatchResult}
use Rattle.dt_tree.specs.TreeData.{TreeData}
use Rattle.dt_blob.specs.declared.error.BlobError.{BlobError}
use Rattle.dt_blob.specs.declared.error.BlobError.TheVariants.{NoMemory, Truncated, BadMagic, BadVersion, BadLayout, BadToken, BadString, PropertyAfterNode, BadTree, TooLarge}
use Rattle.dt_blob.specs.HeaderWords.{header_fault, reserves_of}
use Rattle.dt_blob.specs.Holds.{Holds, HaveNoEnd}
use Rattle.dt_blob.specs.SourceText.{text_of}
use Rattle.dtman_engine.specs.Fault.{Answer, FaultValue, fault_value, no_memory}
use Rattle.dtman_engine.specs.BlobFaults.{blob_fault}
use Rattle.dtman_engine.specs.Limits.{blob_limit}

-- the text is that of a tree that the bytes hold
pub record IsDump (blob text : List ℕ) : Type 0 where
  pub tree : TreeData
  pub held : Holds blob tree
  pub text_is : text ≡ text_of tree
  pub fits : length text ≤ blob_limit

-- why a tree that is held isn't printed: memory is wanted, or its text is too long
abbrev pub CannotPrint : TreeData → FaultValue → Type 0
CannotPrint tree fault = (fault ≡ no_memory) ⊎ ((fault ≡ blob_fault TooLarge) × (blob_limit < length (text_of tree)))

-- the answer to a tree: its text, or why it isn't printed
abbrev pub PrintsTree : TreeData → Answer → Type 0
PrintsTree tree given = MatchResult given (λ text. text.items ≡ text_of tree) (λ fault. CannotPrint tree (fault_value fault))

-- the bytes hold a tree whose text is too long
pub record HoldsLong (blob : List ℕ) : Type 0 where
  pub tree : TreeData
  pub held : Holds blob tree
  pub long : blob_limit < length (text_of tree)

-- more bytes than a blob may have came in, or would go out
abbrev pub TooLong : List ℕ → Type 0
TooLong blob = (header_fault blob ≡ Some TooLarge) ⊎ HoldsLong blob

-- the bytes hold no tree at all
abbrev pub HoldsNone : List ℕ → Type 0
HoldsNone blob = (tree : TreeData) → ¬ (Holds blob tree)

-- why each error is the answer; want of memory has no reason in the bytes
abbrev pub Explains : List ℕ → BlobError → Type 0
Explains blob NoMemory = Unit {0}
Explains blob Truncated = header_fault blob ≡ Some Truncated
Explains blob BadMagic = header_fault blob ≡ Some BadMagic
Explains blob BadVersion = header_fault blob ≡ Some BadVersion
Explains blob BadLayout = (header_fault blob ≡ Some BadLayout) ⊎ ((header_fault blob ≡ None) × HaveNoEnd (reserves_of blob))
Explains blob BadToken = HoldsNone blob
Explains blob BadString = HoldsNone blob
Explains blob PropertyAfterNode = HoldsNone blob
Explains blob BadTree = HoldsNone blob
Explains blob TooLarge = TooLong blob

-- the fault tells an error that is explained
pub record IsRefusal (blob : List ℕ) (fault : FaultValue) : Type 0 where
  pub error : BlobError
  pub told : fault ≡ blob_fault error
  pub explained : Explains blob error

-- the bytes are read as no tree; the limit is that of the bytes that come in
pub record IsUnread (blob : List ℕ) (fault : FaultValue) : Type 0 where
  pub error : BlobError
  pub told : fault ≡ blob_fault error
  pub explained : Explains blob error
  pub size : error ≡ TooLarge → header_fault blob ≡ Some TooLarge
