-- The blocks of a blob (Devicetree Specification v0.4, section 5.1), each where the words of the header say.
use Rattle.std.specs.Prelude.{◌≡◌, ℕ, ◌-◌, List, is_some, unwrap_or}
use Rattle.dt_blob.specs.declared.read_blocks.BlobBlocks.{BlobBlocks}
use Rattle.dt_blob.specs.HeaderWords.{header_of, strings_of, structure_of, reserves_of}

-- the bytes in which the structure block stands: as many as the header tells, or in version 16, whose header tells none, up to the end of the blob
abbrev pub structure_in : List ℕ → List ℕ
structure_in bytes = let h = header_of bytes in structure_of (unwrap_or h.structure_size (h.size - h.structure_at)) bytes

pub record AreBlocks (bytes : List ℕ) (b : BlobBlocks) : Type 0 where
  pub reserves : b.reserves.now ≡ reserves_of bytes
  pub structure : b.structure.now ≡ structure_in bytes
  pub strings : b.strings.now ≡ strings_of bytes
  pub boot_cpu : b.boot_cpu ≡ (header_of bytes).boot_cpu
  pub is_sized : b.is_sized ≡ is_some (header_of bytes).structure_size
