-- Blobs of what is meant: a tree, by its map of paths, or a fault (Devicetree Specification v0.4, chapters 5 and 6).
use Rattle.std.specs.Prelude.{◌≡◌, ◌≤◌, ◌<◌, ◌⊎◌, ℕ, List, length, Result, Ok, MatchResult}
use Rattle.dt_tree.specs.PathMap.{TreeMap, tree_map}
use Rattle.dt_tree.specs.TreeData.{TreeData, IsTree}
use Rattle.dt_source.specs.TreeMeaning.Statements.{Fault}
use Rattle.dt_source.specs.TreeMeaning.Syntax.{Meaning}
use Rattle.dt_source.specs.declared.place.Place.{Place}
use Rattle.dt_source.specs.declared.error.SourceErrorKind.{SourceErrorKind}
use Rattle.dt_build.specs.declared.resolve.error.BuildErrorKind.{BuildErrorKind}
use Rattle.dt_build.specs.Resolve.BuildFault.{IsFault}
use Rattle.dt_blob.specs.declared.error.BlobError.TheVariants.{TooLarge}
use Rattle.dt_blob.specs.Blob.{blob_of}
use Rattle.dtman_engine.specs.Fault.{Answer, FaultValue, fault_value, no_memory}
use Rattle.dtman_engine.specs.SourceFaults.{build_fault, source_fault}
use Rattle.dtman_engine.specs.BlobFaults.{blob_fault}
use Rattle.dtman_engine.specs.Limits.{blob_limit, IsShort}

-- a tree that is meant, or the first fault
abbrev pub Meant : Type 0
Meant = Result TreeMap Fault

-- ---- of what is meant
-- the blob of the tree that is meant
pub record IsBlobOf (meant : Meant) (blob : List ℕ) : Type 0 where
  pub tree : TreeData
  pub is : IsTree tree
  pub means : meant ≡ Ok (tree_map tree)
  pub blob_is : blob ≡ blob_of tree
  pub fits : length blob ≤ blob_limit

-- the blob of that tree is too long
pub record HasLongBlob (meant : Meant) : Type 0 where
  pub map : TreeMap
  pub means : meant ≡ Ok map
  pub long : (tree : TreeData) → IsTree tree → tree_map tree ≡ map → blob_limit < length (blob_of tree)

-- no tree is meant, for this error
pub record MeansNone (meant : Meant) (fault : FaultValue) : Type 0 where
  pub error : BuildErrorKind
  pub told : fault ≡ build_fault error
  pub refuses : IsFault error meant

-- why what is meant makes no blob: memory is wanted, no tree is meant, or the blob is too long
abbrev pub CannotBuild : Meant → FaultValue → Type 0
CannotBuild meant fault = (fault ≡ no_memory) ⊎ MeansNone meant fault ⊎ ((fault ≡ blob_fault TooLarge) × HasLongBlob meant)

-- the answer to what is meant: its blob, or why there is none
abbrev pub Builds : Meant → Answer → Type 0
Builds meant given = MatchResult given (λ blob. IsBlobOf meant blob.items) (λ fault. CannotBuild meant (fault_value fault))

-- ---- of what a text says: `Says` tells what that may be, and `Refuses` why it is nothing, by the kind of error and its place
-- the text says something, and this is the blob of what that means
pub record IsBlobOfText (Says : Meaning → Type 0) (meant : Meaning → Meant) (text blob : List ℕ) : Type 0 where
  pub said : Meaning
  pub short : IsShort text
  pub says : Says said
  pub blob_is : IsBlobOf (meant said) blob

-- the text says nothing, for this kind of error at this place
pub record SaysNone (Refuses : SourceErrorKind → Place → Type 0) (fault : FaultValue) : Type 0 where
  pub kind : SourceErrorKind
  pub place : Place
  pub told : fault ≡ source_fault kind place
  pub refuses : Refuses kind place

-- what the text says makes no blob
pub record SaysInVain (Says : Meaning → Type 0) (meant : Meaning → Meant) (text : List ℕ) (fault : FaultValue) : Type 0 where
  pub said : Meaning
  pub short : IsShort text
  pub says : Says said
  pub cannot : CannotBuild (meant said) fault
