-- What `overlay_bytes` answers: the blob of *Overlay result* of the trees that two blobs hold, or why there is none
-- (dt-object-internal, section 3).
use Rattle.std.specs.Prelude.{◌≡◌, ◌≤◌, ◌<◌, ◌⊎◌, ℕ, List, length, Some, Ok, IsErrAnd, MatchResult}
use Rattle.dt_tree.specs.PathMap.{tree_map}
use Rattle.dt_tree.specs.TreeData.{TreeData, IsTree}
use Rattle.dt_source.specs.TreeMeaning.MapOf.{map_of}
use Rattle.dt_source.specs.TreeMeaning.Resolved.{Resolved}
use Rattle.dt_live.specs.Builder.Lists.{lists_of}
use Rattle.dt_source.specs.OverlayMeaning.Applied.{overlay_result}
use Rattle.dt_overlay.specs.declared.fixup.error.OverlayError.{OverlayError}
use Rattle.dt_overlay.specs.Fixup.OverlayFault.{IsFault}
use Rattle.dt_overlay.specs.Applied.{IsApplied}
use Rattle.dt_blob.specs.declared.error.BlobError.{BlobError}
use Rattle.dt_blob.specs.declared.error.BlobError.TheVariants.{TooLarge}
use Rattle.dt_blob.specs.Blob.{blob_of}
use Rattle.dt_blob.specs.HeaderWords.{header_fault}
use Rattle.dt_blob.specs.Holds.{Holds}
use Rattle.dtman_engine.specs.Dump.{IsUnread}
use Rattle.dtman_engine.specs.Fault.{Answer, FaultValue, fault_value, no_memory}
use Rattle.dtman_engine.specs.BlobFaults.{blob_fault}
use Rattle.dtman_engine.specs.OverlayFaults.{overlay_fault}
use Rattle.dtman_engine.specs.Limits.{blob_limit}

-- the blob of the base with the overlay applied
pub record IsBlobOfApplied (base over : TreeData) (blob : List ℕ) : Type 0 where
  pub tree : TreeData
  pub is : IsTree tree
  pub tree_is : IsApplied base over tree
  pub blob_is : blob ≡ blob_of tree
  pub fits : length blob ≤ blob_limit

-- the blob of that tree is too long
pub record HasLongResult (base over : TreeData) : Type 0 where
  pub lists : Resolved
  pub result : overlay_result (lists_of base.root) (lists_of over.root) ≡ Ok lists
  pub long :
      (tree : TreeData) → IsTree tree → tree_map tree ≡ record { nodes = map_of lists; reserves = base.reserves; boot_cpu = base.boot_cpu } → blob_limit < length (blob_of tree)

-- the overlay isn't applied, for this error
pub record IsUnapplied (base over : TreeData) (fault : FaultValue) : Type 0 where
  pub error : OverlayError
  pub told : fault ≡ overlay_fault error
  pub refused : IsFault error (overlay_result (lists_of base.root) (lists_of over.root))

-- why a base and an overlay make no blob: memory is wanted, the overlay isn't applied, or the blob is too long
abbrev pub CannotApply : TreeData → TreeData → FaultValue → Type 0
CannotApply base over fault = (fault ≡ no_memory) ⊎ IsUnapplied base over fault ⊎ ((fault ≡ blob_fault TooLarge) × HasLongResult base over)

-- the answer to a base and an overlay: their blob, or why they make none
abbrev pub Applies : TreeData → TreeData → Answer → Type 0
Applies base over given = MatchResult given (λ blob. IsBlobOfApplied base over blob.items) (λ fault. CannotApply base over (fault_value fault))

-- both bytes hold a tree, and this is the blob of the one with the other applied
pub record IsOverlaid (base over blob : List ℕ) : Type 0 where
  pub base_tree : TreeData
  pub base_held : Holds base base_tree
  pub over_tree : TreeData
  pub over_held : Holds over over_tree
  pub blob_is : IsBlobOfApplied base_tree over_tree blob

-- ---- refusals
-- the base is held, and the overlay is read as no tree
pub record IsUnreadOver (base over : List ℕ) (fault : FaultValue) : Type 0 where
  pub base_tree : TreeData
  pub base_held : Holds base base_tree
  pub unread : IsUnread over fault

-- the base is held, and the overlay's header has this fault
pub record IsBadOver (base over : List ℕ) (error : BlobError) : Type 0 where
  pub base_tree : TreeData
  pub base_held : Holds base base_tree
  pub bad : header_fault over ≡ Some error

-- the fault tells this error of the overlay, or memory ran out for the base, which is read before it
abbrev pub TellsOver : BlobError → FaultValue → Type 0
TellsOver error fault = (fault ≡ no_memory) ⊎ (fault ≡ blob_fault error)

-- the answer is such a fault
abbrev pub IsToldOver : BlobError → Answer → Type 0
IsToldOver error given = IsErrAnd given (λ fault. TellsOver error (fault_value fault))

-- both are held, and make no blob
pub record AreInVain (base over : List ℕ) (fault : FaultValue) : Type 0 where
  pub base_tree : TreeData
  pub base_held : Holds base base_tree
  pub over_tree : TreeData
  pub over_held : Holds over over_tree
  pub cannot : CannotApply base_tree over_tree fault

-- why there is no blob at all: the base's fault comes before the overlay's, and that before those of the two together
abbrev pub IsOverlayRefusal : List ℕ → List ℕ → FaultValue → Type 0
IsOverlayRefusal base over fault = IsUnread base fault ⊎ IsUnreadOver base over fault ⊎ AreInVain base over fault
