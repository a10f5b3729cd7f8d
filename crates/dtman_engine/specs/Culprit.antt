-- What a fault of a blob is of: the word of the bytes that came in at which they are refused (Devicetree Specification v0.4,
-- chapter 5).
use Rattle.std.specs.Prelude.{◌≡◌, ◌⊎◌, ℕ, List, Option, None, Some}
use Rattle.dt_tree.specs.TreeData.{TreeData}
use Rattle.dt_blob.specs.declared.error.BlobError.{BlobError}
use Rattle.dt_blob.specs.declared.error.BlobError.TheVariants.{NoMemory}
use Rattle.dt_blob.specs.HeaderWords.{IsRefusedAt}
use Rattle.dt_blob.specs.Holds.{Holds}
use Rattle.dtman_engine.specs.declared.culprit.BlobRole.{BlobRole}
use Rattle.dtman_engine.specs.declared.culprit.BlobRole.TheVariants.{Base, Applied}
use Rattle.dtman_engine.specs.declared.culprit.Unread.{Unread}
use Rattle.dtman_engine.specs.declared.culprit.Culprit.{Culprit}
use Rattle.dtman_engine.specs.declared.culprit.Culprit.TheVariants.{Property, Overlay, Blob}
use Rattle.dtman_engine.specs.declared.fault.Fault.{Fault}
use Rattle.dtman_engine.specs.BlobFaults.{blob_fault}
use Rattle.dtman_engine.specs.Dump.{HoldsNone}
use Rattle.dtman_engine.specs.Fault.{FaultValue, fault_value, no_memory}

-- the word of a blob that is refused; want of memory is no word's
abbrev pub word_of : BlobError → Unread → Option Culprit
word_of NoMemory unread = None
word_of _ unread = Some (Blob unread)

-- no word of a blob is told
abbrev pub IsOfNoBlob : Option Culprit → Type 0
IsOfNoBlob None = Unit {0}
IsOfNoBlob (Some (Property property)) = Unit {0}
IsOfNoBlob (Some (Overlay error)) = Unit {0}
IsOfNoBlob (Some (Blob unread)) = ⊥

-- the bytes hold a tree
pub record IsHeldBlob (bytes : List ℕ) : Type 0 where
  pub tree : TreeData
  pub held : Holds bytes tree

-- the bytes, of a blob in this role, hold no tree, and this is the word at which they are refused, for what the fault tells
pub record IsWordOf (which : BlobRole) (bytes : List ℕ) (fault : FaultValue) (unread : Unread) : Type 0 where
  pub role_is : unread.role ≡ which
  pub told : fault ≡ blob_fault unread.refused.kind
  pub none : HoldsNone bytes
  pub word : IsRefusedAt bytes unread.refused

-- A word is told exactly where the bytes of the blob in this role are refused: else memory ran out, or they hold a tree.
abbrev pub PlacesIn : BlobRole → List ℕ → FaultValue → Option Culprit → Type 0
PlacesIn which bytes fault None = (fault ≡ no_memory) ⊎ IsHeldBlob bytes
PlacesIn which bytes fault (Some (Property property)) = IsHeldBlob bytes
PlacesIn which bytes fault (Some (Overlay error)) = IsHeldBlob bytes
PlacesIn which bytes fault (Some (Blob unread)) = IsWordOf which bytes fault unread

-- the fault tells the word of a blob so
abbrev pub Places : BlobRole → List ℕ → Fault → Type 0
Places which bytes fault = PlacesIn which bytes (fault_value fault) fault.culprit

-- the same of a base and, where that is held, of the overlay that is applied to it
abbrev pub PlacesOver : List ℕ → List ℕ → Fault → Type 0
PlacesOver base over fault = Places Base base fault ⊎ (IsHeldBlob base × Places Applied over fault)
