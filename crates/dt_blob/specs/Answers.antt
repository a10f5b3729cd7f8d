-- What writing and reading a blob answer (Devicetree Specification v0.4, chapter 5).
use Rattle.std.specs.Prelude.{◌≡◌, ◌⊎◌, ◌↔◌, ◌≤◌, ℕ, List, length, Some, None, Result, MatchResult, IsErrOf}
use Rattle.dt_tree.specs.TreeData.{TreeData}
use Rattle.dt_blob.specs.declared.error.BlobError.{BlobError}
use Rattle.dt_blob.specs.declared.error.BlobError.TheVariants.{NoMemory, BadLayout}
use Rattle.dt_blob.specs.declared.read_error.ReadError.{ReadError}
use Rattle.dt_blob.specs.Blob.{Refuses, limit}
use Rattle.dt_blob.specs.HeaderWords.{header_fault, header_fault_at, kinds, reserves_of}
use Rattle.dt_blob.specs.Holds.{HaveNoEnd}

-- these bytes are made, unless they are too many or memory runs out
abbrev pub Makes : {A : Type 0} → (A → List ℕ) → List ℕ → Result A BlobError → Type 0
Makes bytes_of bytes result =
    MatchResult result (λ made. (bytes_of made ≡ bytes) × (length (bytes_of made) ≤ limit)) (Refuses (length bytes))

-- this tree is read, unless memory runs out
abbrev pub Reads : TreeData → Result TreeData ReadError → Type 0
Reads tree result = MatchResult result (λ read. read ≡ tree) (λ e. e.kind ≡ NoMemory)

-- this refusal comes exactly where the header has that fault first
abbrev pub IsOfHeader : {A : Type 0} → BlobError → List ℕ → Result A ReadError → Type 0
IsOfHeader e bytes result = IsErrOf (kinds result) e ↔ (header_fault bytes ≡ Some e)

-- the header lays out what isn't in the blob, or the reserved memory has no end
abbrev pub IsMislaid : List ℕ → Type 0
IsMislaid bytes =
    (header_fault bytes ≡ Some BadLayout) ⊎ ((header_fault bytes ≡ None) × HaveNoEnd (reserves_of bytes))

-- a refusal is of the header's first fault, at the word that shows it
abbrev pub IsHeaderRefusal : List ℕ → ReadError → Type 0
IsHeaderRefusal bytes e = (header_fault bytes ≡ Some e.kind) × (e.at ≡ header_fault_at bytes)
